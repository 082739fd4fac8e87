use Rattle.offload_words.proofs.CommandSet.{ok_command, ok_faultless, ok_ranges, ok_texts, usage_none, usage_refused}
use Rattle.offload_words.proofs.words.parse_words.Goals as goal

pub returns-in-Ok-clause-command : goal.returns-in-Ok-clause-command
returns-in-Ok-clause-command c = ok_command _ c.parse_by.result c.parse_by.ensures.command

pub returns-in-Ok-clause-faultless : goal.returns-in-Ok-clause-faultless
returns-in-Ok-clause-faultless c = ok_faultless _ c.parse_by.result c.parse_by.ensures.command

pub returns-in-Ok-clause-texts : goal.returns-in-Ok-clause-texts
returns-in-Ok-clause-texts c = ok_texts _ c.parse_by.result c.parse_by.ensures.command

pub returns-in-Ok-clause-range : goal.returns-in-Ok-clause-range
returns-in-Ok-clause-range c = ok_ranges _ c.parse_by.result c.parse_by.ensures.command

pub returns-in-Ok-clause-usage : goal.returns-in-Ok-clause-usage
returns-in-Ok-clause-usage c = usage_refused _ c.parse_by.result c.parse_by.ensures.command

pub returns-in-Ok-clause-no_command : goal.returns-in-Ok-clause-no_command
returns-in-Ok-clause-no_command c = usage_none _ c.parse_by.result c.parse_by.ensures.command
