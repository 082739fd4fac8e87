use Rattle.std.specs.Prelude.{map, string_bytes}
use Rattle.std.proofs.Common.{refl}
use Rattle.offload_words.specs.Commands.{command_of}
use Rattle.offload_run.proofs.Unread.{ended_unread, none_left}
use Rattle.offload_run.proofs.command.run_words.Goals as goal

pub returns-in-Err-NoMemory-clause-ended : goal.returns-in-Err-NoMemory-clause-ended
returns-in-Err-NoMemory-clause-ended g c = ended_unread (command_of (map string_bytes c.args.words.now)) _ _ _ _ _ _ _ refl c.requires.engine

pub returns-in-Err-NoMemory-clause-home : goal.returns-in-Err-NoMemory-clause-home
returns-in-Err-NoMemory-clause-home g c = none_left (command_of (map string_bytes c.args.words.now)) c.args.engine.now c.requires.engine
