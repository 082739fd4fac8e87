-- What a reader of words answers of what stands there.
use Rattle.std.specs.Prelude.{◌≡◌, Option, Some, None, Ok, Err}
use Rattle.std.specs.declared.result.Result.{Result}
use Rattle.offload_words.specs.declared.fault.WordsFault.{WordsFault}
use Rattle.offload_words.specs.declared.fault.WordsFault.TheVariants.{Usage, NoMemory}

-- it reads what stands there, or says that nothing does, or memory ran out
abbrev pub Reads : {A : Type 0} → Result A WordsFault → Option A → Type 0
Reads (Ok x) there = there ≡ Some x
Reads (Err Usage) there = there ≡ None
Reads (Err NoMemory) there = Unit {0}
