-- The pieces one after another are the spelling.
use Rattle.std.proofs.Common.{ap, ◌∙◌, ◌++◌, arith}
use Rattle.fg_cli.specs.Help.{range_text, spelling}
use Rattle.fg_cli.specs.Reading.{range_seen}
use Rattle.fg_cli.proofs.HelpLemmas.{spelled}
use Rattle.fg_cli.proofs.help.push_spelling.Goals as goal

pub returns : goal.returns
unfolding spelling
returns c =
    spelled c.args.text.now.items c.args.name.now (range_text (range_seen c.args.values)) _ _ _ _ _ c.len-start.result
    (omega (arith, c.len-start.ensures)) c.in_ok-extend_from_slice.ensures.items
    (c.in_ok-extend_from_slice-2.ensures.items ∙ ap (λ t. c.extend_from_slice.new.self.items ++ t) c.as_bytes.ensures.value)
    c.in_ok-push.ensures.items c.in_ok-push_range.ensures c.in_ok-push_blanks.ensures
