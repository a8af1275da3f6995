use Rattle.std.proofs.Common.{◌≡◌, None, sym, ◌∙◌, ap, not, arith}
use Rattle.fg_peel.specs.Slots.{equation_of}
use Rattle.fg_peel.proofs.Options.{none_of_copied}
use Rattle.fg_desk.specs.Contents.{known_in}
use Rattle.fg_peel.proofs.Misses.{misses_several_found, misses_one, misses_nothing}
use Rattle.fg_core.proofs.open.missing.Goals as goal

pub returns-then-is_some : goal.returns-then-is_some
returns-then-is_some c =
    let words = known_in c.args.desk.now in
    let none : words c.slot-position.result ≡ None = none_of_copied _ c.word.result c.word.ensures (c.is_none.ensures ∙ ap not c.if-is_none.true) in
    misses_several_found words (equation_of c.args.line.now) c.loop-j.j c.loop-j.found c.requires.shape.some_offset c.loop-j-test.true
    (rw c.slot-position.ensures at none) (sym c.is_some.ensures ∙ c.if-is_some.true) c.loop-j.invariant

pub returns-in-Some : goal.returns-in-Some
returns-in-Some c =
    let all : c.loop-j.j ≡ c.args.line.now.shape.na = omega arith in
    misses_one (known_in c.args.desk.now) (equation_of c.args.line.now) c.in-Some.position (rw (all, c.in-Some.is) at c.loop-j.invariant)

pub returns-in-None : goal.returns-in-None
returns-in-None c =
    let all : c.loop-j.j ≡ c.args.line.now.shape.na = omega arith in
    misses_nothing (known_in c.args.desk.now) (equation_of c.args.line.now) (rw (all, c.in-None.is) at c.loop-j.invariant)
