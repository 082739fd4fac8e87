-- Words that are no options, for which nothing was read and nothing written; and what was counted of a whole capture.
use Rattle.std.proofs.Common.{◌≡◌, ◌⊎◌, ⊎_elim, ℕ, List, [], refl, sym, ap, ◌∙◌, subst, Option, Some, None, Bool, Ok}
use Rattle.std.specs.Prelude.{IfSome}
use Rattle.std.proofs.KnownBytes.{Appends-nil}
use Rattle.std.proofs.lemmas.Bool.{false≢true}
use Rattle.off_io.specs.Told.{Told}
use Rattle.off_io.proofs.Telling.{Told-same, Told-then}
use Rattle.pcap_io.specs.declared.heads.FileHead.{FileHead}
use Rattle.pcap_io.specs.declared.heads.Link.TheVariants.{Ethernet}
use Rattle.pcap_io.specs.Capture.{Found, reads}
use Rattle.pcap_io.specs.Places.{found_at, first_place}
use Rattle.pcap_io.specs.Reading.{GivesFile}
use Rattle.command_answers.specs.declared.status.Status.{Status}
use Rattle.command_answers.specs.declared.status.Status.TheVariants.{Usage, NoMemory}
use Rattle.command_answers.proofs.Prefixes.{nothing_prefix}
use Rattle.command_answers.proofs.Used.{reads_is}
use Rattle.wire_model.specs.declared.counts.Counts.{Counts}
use Rattle.wire_model.specs.declared.wiring.Wiring.{Wiring}
use Rattle.wire_model.specs.Counting.{counts_from, counts_of}
use Rattle.wire_model.specs.Passing.{wiring_whole}
use Rattle.wire_words.specs.declared.words.WireOptions.{WireOptions}
use Rattle.wire_run.specs.Answers.{WireAnswers, WritesFront}

pub unread_given : (x : Option WireOptions) (a h : Option (List ℕ)) (flushed : Bool) (untouched : Type 0) (status : Status) → (status ≡ Usage → x ≡ None)
    → (status ≡ Usage) ⊎ (status ≡ NoMemory) → IfSome x (λ o. Told a a (WireAnswers o h h flushed untouched status))
unread_given None a h flushed untouched status none either = tt
unread_given (Some o) a h flushed untouched status none either =
    ⊎_elim
    (λ (e : status ≡ Usage). absurd (let no = none e in cc))
    (λ (e : status ≡ NoMemory). subst (λ s. Told a a (WireAnswers o h h flushed untouched s)) (sym e)
    (Told-same a (WireAnswers o h h flushed untouched NoMemory) (λ given. record { passes = ([], refl, (0, Appends-nil h)); flushes = λ is. absurd (false≢true is) }))) either

pub unread_prefix : (x : Option WireOptions) (a h : Option (List ℕ)) → IfSome x (λ o. WritesFront o a a h h)
unread_prefix None a h = tt
unread_prefix (Some o) a h = nothing_prefix ⊥ (wiring_whole o.blocks o.wiring) a h

-- of the records behind a file header, and so of the capture
pub counted_whole : (o : Wiring) (before now : Counts) (a b c : Option (List ℕ)) (file : FileHead) → before ≡ record { filled = 0; wrong = 0; cut = 0; long = 0 }
    → Told a b (GivesFile Ethernet (Ok file))
    → Told b c (λ rest left. now ≡ counts_from o before (found_at (first_place file Ethernet 0) rest).packets)
    → Told a c (λ given left. now ≡ counts_of o (reads Ethernet given).packets)
counted_whole o before now a b c file none told took =
    Told-then a b c (GivesFile Ethernet (Ok file)) (λ rest left. now ≡ counts_from o before (found_at (first_place file Ethernet 0) rest).packets)
    (λ given left. now ≡ counts_of o (reads Ethernet given).packets)
    (λ given rest left gives same.
    same ∙ ap (λ (found : Found). counts_from o before found.packets) (sym (reads_is Ethernet file given rest gives))
    ∙ ap (λ (start : Counts). counts_from o start (reads Ethernet given).packets) none) told took
