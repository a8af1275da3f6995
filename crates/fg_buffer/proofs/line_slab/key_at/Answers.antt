use Rattle.std.proofs.Common.{◌≡◌, Some, sym, ap, ◌∙◌}
use Rattle.std.proofs.lemmas.Option.{none-some}
use Rattle.std.specs.Option.{option_copied}
use Rattle.slab.specs.Slab.{get}
use Rattle.fg_peel.specs.declared.Line.{Line}
use Rattle.fg_buffer.proofs.LiveViews.{one_value}
use Rattle.fg_buffer.proofs.LiveKeys.{found_there}
use Rattle.fg_buffer.proofs.line_slab.key_at.Goals as goal

pub returns-in_default-clause-none : goal.returns-in_default-clause-none
returns-in_default-clause-none c line h same =
    let there : get c.args.lines.now c.told_key-key.result ≡ Some line =
    ap (get c.args.lines.now) c.told_key-key.ensures ∙ found_there c.args.keys.now c.args.lines.now c.args.place c.requires.keyed line h same in
    let it = one_value (get c.args.lines.now c.told_key-key.result) line c.in-Some.line.now there (sym c.in-Some.ensures) in
    c.if-line-place.false (ap (λ (l : Line). l.place) (sym it) ∙ same)

pub returns-in_default-2-clause-none : goal.returns-in_default-2-clause-none
returns-in_default-2-clause-none c line h same =
    let there : get c.args.lines.now c.told_key-key.result ≡ Some line =
    ap (get c.args.lines.now) c.told_key-key.ensures ∙ found_there c.args.keys.now c.args.lines.now c.args.place c.requires.keyed line h same in
    none-some line (ap (option_copied) (sym c.in_default.is) ∙ c.get.ensures ∙ there)
