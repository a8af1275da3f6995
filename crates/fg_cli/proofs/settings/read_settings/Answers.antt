use Rattle.std.proofs.Common.{◌≡◌, ◌+◌, ◌<◌, List, [], get_or, length, take, map, string_bytes, inr, ap, sym, subst, ◌∙◌, arith}
use Rattle.std.proofs.lemmas.List.{length-map, get_or-map}
use Rattle.fg_cli.specs.declared.settings.Setting.{Setting}
use Rattle.fg_cli.specs.Grammar.{most_of}
use Rattle.fg_cli.specs.Lines.{AtMost, IsLine, values_of}
use Rattle.fg_cli.proofs.Lines.{no_beginning, no_line_more, line_more}
use Rattle.fg_cli.proofs.Lists.{on_none}
use Rattle.fg_cli.proofs.settings.read_settings.Goals as goal

pub returns-in_default-clause-faults : goal.returns-in_default-clause-faults
returns-in_default-clause-faults c =
    let words = map (λ w. string_bytes w) c.args.words.now in
    let inside : c.loop-i.i < length c.args.words.now = omega arith in
    let below : c.loop-i.i < length words = omega (arith, length-map c.args.words.now (λ w. string_bytes w), inside) in
    let word : get_or words c.loop-i.i [] ≡ c.as_str.result.now =
    get_or-map (λ w. string_bytes w) c.args.words.now c.loop-i.i c.index-words-i.result [] inside
    ∙ ap (λ w. string_bytes w) (sym c.index-words-i.is) ∙ sym c.as_str.ensures.value in
    let none = on_none c.next_setting.result _ c.next_setting.ensures.none c.in_default.not-Some in (
      below,
      inr (c.args.command, c.loop-i.settings.items, c.loop-i.invariant),
      no_beginning words c.loop-i.i below
          (no_line_more words c.args.command c.loop-i.settings.items c.loop-i.i [] below c.loop-i.invariant
          (λ s known text few. (
          let P : List Setting → Type 0 = λ l. AtMost (most_of c.args.command s.key) (length (values_of s.key l) + 1) in
          none s known (sym word ∙ text) (subst P (sym c.deref.ensures.value) few)))),
    )

pub loop-i-preserved : goal.loop-i-preserved
loop-i-preserved c =
    let words = map (λ w. string_bytes w) c.args.words.now in
    let inside : c.loop-i.i < length c.args.words.now = omega arith in
    let below : c.loop-i.i < length words = omega (arith, length-map c.args.words.now (λ w. string_bytes w), inside) in
    let word : get_or words c.loop-i.i [] ≡ c.as_str.result.now =
    get_or-map (λ w. string_bytes w) c.args.words.now c.loop-i.i c.index-words-i.result [] inside
    ∙ ap (λ w. string_bytes w) (sym c.index-words-i.is) ∙ sym c.as_str.ensures.value in
    let found = c.in-Some.ensures.found in
    let P : List Setting → Type 0 = λ l. AtMost (most_of c.args.command c.in-Some.setting.key) (length (values_of c.in-Some.setting.key l) + 1) in
    let Q : List Setting → Type 0 = λ l. IsLine (take (c.loop-i.i + 1) words) c.args.command l in
    subst Q (sym c.in_ok-add.ensures)
    (line_more words c.args.command c.loop-i.settings.items c.loop-i.i [] c.in-Some.setting below c.loop-i.invariant found.0 (word ∙ found.1) (subst P c.deref.ensures.value found.2))
