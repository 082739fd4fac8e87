-- The records made of texts are the windows that merging writes.
use Rattle.std.proofs.Common.{◌≡◌, ℕ, List, [], ◌∷◌, ◌++◌, map, refl, ap, ◌∙◌}
use Rattle.std.proofs.lemmas.List.{map-append}
use Rattle.std.specs.Prelude.{IfOk, Ok, Err}
use Rattle.std.specs.declared.result.Result.{Result}
use Rattle.pcap_io.specs.Capture.{Packet}
use Rattle.offload_model.specs.Written.{window_of, windows_by, windows_of}
use Rattle.taps.specs.Texts.{text_by, text_of, texts_of, record_of_text}

text_record : (t : ℕ) (p : Packet) (window : List ℕ) → map (record_of_text t) (text_by p window) ≡ windows_by t p window
text_record t p [] = refl
text_record t p (b ∷ bytes) = refl

pub texts_records : (snap t : ℕ) (ps : List Packet) → map (record_of_text t) (texts_of snap t ps) ≡ windows_of snap t ps
texts_records snap t [] = refl
texts_records snap t (p ∷ ps) =
    map-append (record_of_text t) (text_of snap t p) (texts_of snap t ps)
    ∙ ap (λ z. z ++ map (record_of_text t) (texts_of snap t ps)) (text_record t p (window_of snap t p.frame))
    ∙ ap (λ z. windows_by t p (window_of snap t p.frame) ++ z) (texts_records snap t ps)

-- so they are where texts were read
pub records_if : {E : Type 0} (snap t : ℕ) (ps : List Packet) (r : Result (List Packet) E)
    → IfOk r (λ texts. texts ≡ texts_of snap t ps)
    → IfOk r (λ texts. map (record_of_text t) texts ≡ windows_of snap t ps)
records_if snap t ps (Ok texts) h = ap (map (record_of_text t)) h ∙ texts_records snap t ps
records_if snap t ps (Err e) h = tt
