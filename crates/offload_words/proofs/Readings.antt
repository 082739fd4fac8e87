-- Answers of readers of words.
use Rattle.std.proofs.Common.{◌≡◌, Option, None, Err, refl}
use Rattle.offload_words.specs.declared.fault.WordsFault.{WordsFault}
use Rattle.offload_words.specs.declared.fault.WordsFault.TheVariants.{Usage, NoMemory}
use Rattle.offload_words.specs.Reading.{Reads}

-- a fault says that nothing stands there, if it isn't want of memory
pub refused : {A : Type 0} {there : Option A} (fault : WordsFault) → (fault ≡ Usage → there ≡ None) → Reads (Err fault) there
refused Usage h = h refl
refused NoMemory h = tt
