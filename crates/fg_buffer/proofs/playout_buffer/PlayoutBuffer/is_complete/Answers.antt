use Rattle.std.proofs.Common.{◌≡◌, ◌<◌, ℕ, length, Contains, None, true, false, refl, sym, ◌∙◌, ap, not, subst, arith}
use Rattle.std.proofs.lemmas.List.Elements.{Contains-get_or}
use Rattle.fg_shape.specs.Shape.{slots_of}
use Rattle.fg_peel.proofs.Options.{none_has_no_value, none_of_copied}
use Rattle.fg_buffer.specs.PlayoutBuffer.{buffer_words}
use Rattle.fg_buffer.proofs.BufferLoops.{all_have_words}
use Rattle.fg_shape.proofs.ShapeLemmas.{length-slots_of}
use Rattle.fg_buffer.proofs.playout_buffer.PlayoutBuffer.is_complete.Goals as goal

pub returns-then-is_none : goal.returns-then-is_none
returns-then-is_none c =
    let line = c.args.line.now in
    let xs = slots_of line.base line.shape.offset line.shape.na in
    let within : c.loop-j.j < length xs = omega (arith, length-slots_of line.base line.shape.offset line.shape.na) in
    let none : buffer_words c.args.self.now c.slot.result ≡ None =
    none_of_copied _ c.any_word.result c.any_word.ensures (c.is_none.ensures ∙ ap not c.if-is_none.true) in
    let member : Contains xs c.slot.result =
    subst (λ (q : ℕ). Contains xs q) (sym c.slot.ensures) (Contains-get_or xs c.loop-j.j 0 within) in
    (λ no. let e : false ≡ true = no in absurd (cc), λ all. absurd (none_has_no_value _ none (all c.slot.result member)))

pub returns : goal.returns
returns c =
    let line = c.args.line.now in
    let xs = slots_of line.base line.shape.offset line.shape.na in (
      λ _. all_have_words (buffer_words c.args.self.now) xs c.loop-j.j (length-slots_of line.base line.shape.offset line.shape.na ∙ omega arith) c.loop-j.invariant,
      λ _. refl,
    )
