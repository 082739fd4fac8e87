-- One segment more.
use Rattle.std.proofs.Common.{◌≡◌, ℕ, ◌+◌, ◌*◌, ◌<◌, ◌^◌, List, [], ◌++◌, length, take, drop, min, refl, sym, ap, ◌∙◌, subst, arith, append-nil}
use Rattle.std.proofs.lemmas.List.{take_at, drop_at, take_all, drop-drop, length-take-le}
use Rattle.raw_block.specs.Views.{SoleState}
use Rattle.frame_layout.specs.Headers.{AtHeaders}
use Rattle.frame_layout.proofs.Lemmas.{IsPlaced}
use Rattle.offload_model.specs.Mergeable.{IsLengthInRange}
use Rattle.frags.specs.PieceList.{bytes_of}
use Rattle.frags.specs.declared.pieces.Piece.{Piece}
use Rattle.frags.specs.declared.holder.Holder.TheVariants.{Sole}
use Rattle.skb.specs.SkbState.{SkbState, head_bytes, buffer_bytes}
use Rattle.skb.specs.Fronts.{front_of}
use Rattle.segment_rule.specs.declared.segmentation.Segmentation.{Segmentation}
use Rattle.segment_rule.specs.Segmentations.{segment_from, payload_at}
use Rattle.segment_rule.proofs.Segments.{places, payload_short, segment_ranges}
use Rattle.gso.specs.declared.sums.Sums.{Sums}
use Rattle.gso_cutter.specs.Merged.{MergedState, IsAt, GivesSegment}
use Rattle.gso.proofs.Least.{first_n, behind_n}

abbrev pub state : Sums → SkbState → List Piece → Segmentation → ℕ → MergedState
state u s ps cut i = record { skb = s; pieces = ps; cut = cut; sums = u; i = i }

-- the pieces are opened behind the headers: i is any place, also that of the frame of the invariant
pub at_open : (u : Sums) (s t : SkbState) (p q : List Piece) (cut : Segmentation) (i : ℕ) (f : List ℕ) → IsAt f (state u s p cut i)
    → buffer_bytes t ++ bytes_of q ≡ buffer_bytes s ++ bytes_of p → IsAt f (state u t q cut i)
at_open u s t p q cut i f is opened = record { in_bytes = is.in_bytes; short = is.short; of = is.of; bytes = opened ∙ is.bytes }

-- the payload of segment i was cut off: what was taken, and what is left
pub record IsCutOff (u : Sums) (t : SkbState) (r front : List Piece) (cut : Segmentation) (i : ℕ) (f : List ℕ) : Type 0 where
  pub placed : IsPlaced f cut.layout
  pub head : head_bytes t ≡ take cut.layout.payload_at f
  pub own : bytes_of front ≡ payload_at cut f i
  pub ranges : AtHeaders (IsLengthInRange (cut.layout.payload_at + length (bytes_of front))) cut.layout.headers
  pub few : cut.layout.payload_at + length (bytes_of front) < 2 ^ 31
  pub next : IsAt f (state u t r cut (i + 1))

module _ (u : Sums) (t : SkbState) (q r front : List Piece) (cut : Segmentation) (i n : ℕ) (f : List ℕ) (is : IsAt f (state u t q cut i))
    (long : length (buffer_bytes t) ≡ cut.layout.payload_at) (bare : t.rest ≡ []) (some : n ≡ min cut.m (length (bytes_of q)))
    (parts : bytes_of q ≡ bytes_of front ++ bytes_of r) (size : length (bytes_of front) ≡ n) where
  abbrev at : ℕ
  at = cut.layout.payload_at

  abbrev left : List ℕ
  left = drop (i * cut.m) (drop at f)

  placed : IsPlaced f cut.layout
  placed = places cut f is.in_bytes is.of

  headers_long : length (take at f) ≡ at
  headers_long = length-take-le at f placed.within

  headers : buffer_bytes t ≡ take at f
  headers = sym (take_at (buffer_bytes t) (bytes_of q) at long) ∙ ap (take at) is.bytes ∙ take_at (take at f) left at headers_long

  payload : bytes_of q ≡ left
  payload = sym (drop_at (buffer_bytes t) (bytes_of q) at long) ∙ ap (drop at) is.bytes ∙ drop_at (take at f) left at headers_long

  is_n : n ≡ min cut.m (length left)
  is_n = some ∙ ap (λ (z : List ℕ). min cut.m (length z)) payload

  both : bytes_of front ++ bytes_of r ≡ left
  both = sym parts ∙ payload

  own : bytes_of front ≡ payload_at cut f i
  own = sym (take_at (bytes_of front) (bytes_of r) n size) ∙ ap (take n) both ∙ first_n left cut.m n is_n

  next_place : i * cut.m + cut.m ≡ (i + 1) * cut.m
  next_place = grind arith

  rest : bytes_of r ≡ drop ((i + 1) * cut.m) (drop at f)
  rest =
      sym (drop_at (bytes_of front) (bytes_of r) n size) ∙ ap (drop n) both ∙ behind_n left cut.m n is_n
      ∙ drop-drop cut.m (i * cut.m) (drop at f) ∙ ap (λ (z : ℕ). drop z (drop at f)) next_place

  pub cut_off : IsCutOff u t r front cut i f
  cut_off = record {
    placed = placed;
    head = sym (append-nil (head_bytes t)) ∙ ap (λ (z : List Piece). head_bytes t ++ bytes_of z) (sym bare) ∙ headers;
    own = own;
    ranges = subst (λ (z : ℕ). AtHeaders (IsLengthInRange (at + z)) cut.layout.headers) (sym (ap length own)) (segment_ranges cut f i is.in_bytes is.of);
    few = omega (arith, ap length own, payload_short cut f i, is.short, placed.low, placed.within);
    next = record { in_bytes = is.in_bytes; short = is.short; of = is.of; bytes = ap (λ (z : List ℕ). z ++ bytes_of r) headers ∙ ap (λ (z : List ℕ). take at f ++ z) rest };
  }

-- with headers in front it is segment i
pub gives : (u : Sums) (s t : SkbState) (p r front : List Piece) (cut : Segmentation) (i : ℕ) (f : List ℕ) → IsCutOff u t r front cut i f
    → (spare block : SoleState) (seg : SkbState) → i < cut.n
    → front_of block cut.layout.payload_at ++ bytes_of front ≡ segment_from cut i (take cut.layout.payload_at (head_bytes t) ++ bytes_of front)
    → block.mark ≡ spare.mark → block.block ≡ spare.block
    → seg ≡ record { head = Sole block; from = 64; to = 64 + cut.layout.payload_at; rest = front }
    → GivesSegment f (state u s p cut i) spare (state u t r cut (i + 1)) seg
gives u s t p r front cut i f k spare block seg less written mark same made =
    let at = cut.layout.payload_at in
    let taken = take_all at (head_bytes t) (omega (arith, ap length k.head, length-take-le at f k.placed.within)) ∙ k.head in
    record {
      there = less;
      bytes = ap buffer_bytes made ∙ written ∙ ap (λ (z : List ℕ). segment_from cut i (z ++ bytes_of front)) taken
          ∙ ap (λ (z : List ℕ). segment_from cut i (take at f ++ z)) k.own;
      head = record { own = block; block = same; head = ap (λ (z : SkbState). z.head) made; mark = mark; from = ap (λ (z : SkbState). z.from) made; to = ap (λ (z : SkbState). z.to) made };
      at = k.next;
      cut = refl;
      i = refl;
    }
