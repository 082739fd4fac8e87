-- Every flow comes back of a whole output.
use Rattle.std.proofs.Common.{◌≡◌, ◌⊎◌, inl, inr, ℕ, ◌+◌, ◌*◌, ◌^◌, ◌≤◌, List, [], ◌∷◌, length, length-append, take, drop, refl, sym, ap, ◌∙◌, subst, arith, Option, None, Some, if◌then◌else◌}
use Rattle.std.specs.Prelude.{is_some}
use Rattle.std.specs.List.{flat_map}
use Rattle.std.proofs.lemmas.Option.{none-some}
use Rattle.pcap_io.specs.declared.faults.CapKind.{CapKind}
use Rattle.pcap_io.specs.declared.heads.FileHead.{FileHead}
use Rattle.pcap_io.specs.declared.heads.Link.TheVariants.{Ethernet, Offload}
use Rattle.pcap_io.specs.Capture.{Packet, Found, reads}
use Rattle.pcap_io.specs.Headers.{first_that_holds, file_refusals, file_head, file_place, order_of}
use Rattle.pcap_io.specs.Places.{first_place, found_at}
use Rattle.pcap_io.specs.Written.{file_bytes}
use Rattle.offload_model.specs.Captured.{AreCaptured, AreOptions}
use Rattle.offload_model.specs.CaptureLaws.{BringsBack}
use Rattle.offload_model.specs.Laws.{InBytes}
use Rattle.offload_model.specs.Need.{exceeded_at, found_before}
use Rattle.offload_model.specs.Passing.{Stop, Nowhere, AtFault, AtRound, Passed, stop_of, merging, merging_whole, behind_head}
use Rattle.offload_model.specs.PassingLaws.{written_of}
use Rattle.offload_model.specs.Tested.{segmented_of}
use Rattle.offload_model.specs.Written.{Options, record_bytes, records_of, written}
use Rattle.offload_model.proofs.Captured.{take_small, drop_small, number_small, captures_are_captured}
use Rattle.offload_model.proofs.ComesBack.{captures_come_back, records_are_few}
use Rattle.offload_model.proofs.Passings.{blocks_suffice}
use Rattle.offload_c.specs.Answers.{Gives, FlowsOf}
use Rattle.offload_c.proofs.Sizes.{size, records_long}
use Rattle.offload_c.proofs.Totals.{total}
use Rattle.offload_c.specs.declared.memory.Outcome.{Outcome}
use Rattle.offload_c.specs.declared.memory.Outcome.TheVariants.{Whole, Refused, Empty, NoMemory}

-- where a command stopped, if anywhere
abbrev stopped_at : Stop → Option Stop
stopped_at Nowhere = None
stopped_at (AtFault fault) = Some (AtFault fault)
stopped_at (AtRound round need) = Some (AtRound round need)

-- what stops nowhere has a lawful file header, and stops nowhere behind it
header_is : (refusal : Option CapKind) (head : List ℕ) (rest : Passed) → (behind_head refusal head rest).stop ≡ Nowhere → (refusal ≡ None) × (rest.stop ≡ Nowhere)
header_is None head rest e = (refl, e)
header_is (Some kind) head rest e = absurd (none-some (AtFault (record { kind = kind; offset = file_place kind; number = 0 })) (sym (ap stopped_at e)))

no_round : (budget : ℕ) (found : Found) (exceeded : Option (ℕ × ℕ)) → stop_of (found_before budget exceeded found).fault exceeded ≡ Nowhere → exceeded ≡ None
no_round budget found None e = refl
no_round budget found (Some at) e = absurd (none-some (AtRound at.0 at.1) (sym (ap stopped_at e)))

-- an output of at most 2^36 bytes has at most 2^32 records, since each has a header of 16
headers_less : (rs : List Packet) → length rs * 16 ≤ total size rs
headers_less [] = omega arith
headers_less (r ∷ rs) = omega (arith, headers_less rs)

few_records : (head : FileHead) (o : Options) (ps : List Packet) (output : List ℕ) → AreOptions o → AreCaptured ps → output ≡ written head o ps
    → (o.taps ≡ 0) ⊎ (length output ≤ 2 ^ 36) → length (records_of o ps) ≤ 2 ^ 32
few_records head o ps output lawful captured is (inl taps) = records_are_few o ps lawful captured taps
few_records head o ps output lawful captured is (inr short) =
    let rs : List Packet = records_of o ps in
    let long : length output ≡ length (file_bytes head Offload) + length (flat_map (record_bytes head.order) rs)
    = ap length is ∙ length-append (file_bytes head Offload) (flat_map (record_bytes head.order) rs) in
    omega (arith, short, long, records_long head.order rs, headers_less rs)

flows : (blocks : ℕ) (o : Options) (given : List ℕ) → AreOptions o → InBytes given → (merging_whole blocks o given).stop ≡ Nowhere
    → (o.taps ≡ 0) ⊎ (length (merging_whole blocks o given).output ≤ 2 ^ 36)
    → BringsBack (reads Ethernet given).packets (reads Ethernet (segmented_of (merging_whole blocks o given).output))
flows blocks o given options_are bytes nowhere few =
    let front : List ℕ = take 24 given in
    let head : FileHead = file_head front in
    let place = first_place head Ethernet 0 in
    let ps : List Packet = (reads Ethernet given).packets in
    let heads = header_is (first_that_holds (file_refusals Ethernet front)) (file_bytes head Offload) (merging blocks o place (drop 24 given)) nowhere in
    let none : exceeded_at blocks o.budget place (drop 24 given) ≡ None = no_round o.budget (found_at place (drop 24 given)) (exceeded_at blocks o.budget place (drop 24 given)) heads.1 in
    let lawful : written_of o given ≡ written head o ps = ap (λ (r : Option CapKind). if is_some r then [] else written head o ps) heads.0 in
    let whole : (merging_whole blocks o given).output ≡ written head o ps = ((blocks_suffice blocks o given).0 none).output ∙ lawful in
    let small : InBytes front = take_small 24 given bytes in
    let captured : AreCaptured ps = captures_are_captured given bytes in
    subst (λ xs. BringsBack ps (reads Ethernet (segmented_of xs))) (sym whole)
    (captures_come_back head o ps (number_small (order_of front) (drop 8 front) (drop_small 8 front small)) (number_small (order_of front) (drop 12 front) (drop_small 12 front small))
    options_are captured (few_records head o ps (merging_whole blocks o given).output options_are captured whole few))

pub flows_of : (blocks : ℕ) (o : Options) (given : List ℕ) (outcome : Outcome) → AreOptions o → InBytes given → Gives (merging_whole blocks o given) outcome → FlowsOf o.taps given outcome
flows_of blocks o given (Whole bytes) lawful small gives = λ few.
    subst (λ xs. BringsBack (reads Ethernet given).packets (reads Ethernet (segmented_of xs))) (sym gives.1)
    (flows blocks o given lawful small gives.0 (subst (λ (xs : List ℕ). (o.taps ≡ 0) ⊎ (length xs ≤ 2 ^ 36)) gives.1 few))
flows_of blocks o given (Refused bytes) lawful small gives = tt
flows_of blocks o given (Empty bytes) lawful small gives = tt
flows_of blocks o given NoMemory lawful small gives = tt
