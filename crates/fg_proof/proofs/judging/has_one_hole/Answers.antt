use Rattle.std.proofs.Common.{◌≡◌, ◌+◌, ◌*◌, sym, ◌∙◌, subst, arith}
use Rattle.std.proofs.lemmas.Bool.{false≢true}
use Rattle.fg_shape.proofs.ShapeLemmas.{get_or-slots_of}
use Rattle.fg_runs.specs.Runs.{InRuns}
use Rattle.fg_proof.proofs.JudgingHoles.{OneBelow, IsHoleAt, one_passed, one_first, one_hole_two, one_hole_all}
use Rattle.fg_proof.proofs.judging.has_one_hole.Goals as goal
use Rattle.fg_proof.proofs.judging.has_one_hole.Goals.{then-is_reached+else-found, else-is_reached}

pub next_reaching-at-requires-clause-passed : goal.next_reaching-at-requires-clause-passed
next_reaching-at-requires-clause-passed c = λ other from inside.
    let at = get_or-slots_of c.args.base c.args.shape.offset c.args.shape.na c.loop-j.j 0 (omega arith) in
    c.loop-j.invariant.passed other (omega (arith, at, from)) inside

pub returns-then-found : goal.returns-then-found
returns-then-found c =
    let at = get_or-slots_of c.args.base c.args.shape.offset c.args.shape.na c.loop-j.j 0 (omega arith) in
    let here : IsHoleAt c.args.holes.now c.args.base c.args.shape c.loop-j.j =
    subst (InRuns c.args.holes.now) (c.slot-position.ensures ∙ at) (c.is_reached.ensures.0 c.if-is_reached.true) in (
      λ false. absurd (false≢true false),
      λ alone. absurd (one_hole_two c.args.holes.now c.args.base c.args.shape c.loop-j.j c.requires.rule.shape.some_offset (omega arith) here
          (subst (λ b. OneBelow b (IsHoleAt c.args.holes.now c.args.base c.args.shape) c.loop-j.j) c.if-found.true c.loop-j.invariant.told) alone),
    )

pub loop-j-preserved : goal.loop-j-preserved
loop-j-preserved c =
    let at = get_or-slots_of c.args.base c.args.shape.offset c.args.shape.na c.loop-j.j 0 (omega arith) in
    let P = IsHoleAt c.args.holes.now c.args.base c.args.shape in
    let same : c.slot-position.result ≡ c.args.base + c.loop-j.j * c.args.shape.offset = c.slot-position.ensures ∙ at in
    record {
      passed = λ other from inside. c.next_reaching-at.ensures.passed other (omega (arith, same, from)) inside;
      told = elim c.if-is_reached.branch [
        | then-is_reached+else-found w ↦
            let here : P c.loop-j.j = subst (InRuns c.args.holes.now) same (c.is_reached.ensures.0 w.if-is_reached.true) in
            let none = subst (λ b. OneBelow b P c.loop-j.j) w.if-found.false c.loop-j.invariant.told in
            subst (λ b. OneBelow b P (c.loop-j.j + 1)) (sym w.found-is) (one_first P c.loop-j.j here none)
        | else-is_reached w ↦
            subst (λ b. OneBelow b P (c.loop-j.j + 1)) (sym w.found-is) (one_passed c.loop-j.found P c.loop-j.j
            (λ here. false≢true (sym w.if-is_reached.false ∙ c.is_reached.ensures.1 (subst (InRuns c.args.holes.now) (sym same) here)))
            c.loop-j.invariant.told)
      ];
    }

pub returns : goal.returns
returns c =
    let end : c.loop-j.j ≡ c.args.shape.na = omega arith in
    one_hole_all c.loop-j.found c.args.holes.now c.args.base c.args.shape
    (subst (λ n. OneBelow c.loop-j.found (IsHoleAt c.args.holes.now c.args.base c.args.shape) n) end c.loop-j.invariant.told)
