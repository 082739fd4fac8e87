use Rattle.std.proofs.Common.{◌∙◌, ap, Err}
use Rattle.clap.specs.Words.{app_of, is_simple_and_free, subcommand_rows_of}
use Rattle.offload_words.specs.declared.fault.WordsFault.TheVariants.{Usage}
use Rattle.offload_words.proofs.CommandSet.{at_offload, of_err, of_ok, offload_is_simple, queues_by, simple_of}
use Rattle.offload_words.proofs.words.parse_by.Goals as goal

pub command_in-requires : goal.command_in-requires
command_in-requires c =
    let a = app_of c.args.app in let free = ap is_simple_and_free c.requires.app ∙ offload_is_simple in
    record { queues = queues_by a _ (subcommand_rows_of c.in-Ok.matches) c.requires.app (c.in-Ok.ensures.kinds free) (c.in-Ok.ensures.matches (simple_of a free)).1 }

pub returns-in-Ok : goal.returns-in-Ok
returns-in-Ok c =
    let a = app_of c.args.app in let free = ap is_simple_and_free c.requires.app ∙ offload_is_simple in
    record {
      command =
          at_offload a _ c.command_in.result c.requires.app
          (of_ok a _ (subcommand_rows_of c.in-Ok.matches) c.command_in.result (c.in-Ok.ensures.kinds free) (c.in-Ok.ensures.matches (simple_of a free)).1 c.command_in.ensures.command);
    }

pub returns : goal.returns
returns c =
    let a = app_of c.args.app in let free = ap is_simple_and_free c.requires.app ∙ offload_is_simple in
    record {
      command =
          at_offload a _ (Err Usage) c.requires.app
          (of_err a _ c.in-Err.error (c.in-Err.ensures.kinds free) (λ e. c.in_default.not-OutOfMemory (c.kind.ensures ∙ e)));
    }
