use Rattle.std.proofs.Common.{◌≡◌, ◌<◌, ◌+◌, ℕ, Bool, List, false, length, set, subst, sym, ap, ◌∙◌, arith}
use Rattle.slab.specs.Slab.{Slab}
use Rattle.fg_peel.specs.declared.Line.{Line}
use Rattle.fg_peel.specs.Slots.{equation_of}
use Rattle.fg_peel.specs.Live.{Survives}
use Rattle.fg_buffer.proofs.LiveMoves.{DropsBelow, drops_passed, drops_one, drops_all}
use Rattle.fg_buffer.proofs.retiring.drop_lines.Goals as goal
use Rattle.fg_buffer.proofs.retiring.drop_lines.Goals.{in-Some, in_default}

pub retired_place-requires-clause-within : goal.retired_place-requires-clause-within
retired_place-requires-clause-within c = λ key line is. c.requires.within key line (c.loop-key.invariant.left key line is).0

pub retired_place-requires-clause-based : goal.retired_place-requires-clause-based
retired_place-requires-clause-based c =
    λ based line h. c.requires.based based line (h.0, (c.loop-key.invariant.left h.0 line h.1).0)

pub loop-key-preserved : goal.loop-key-preserved
loop-key-preserved c =
    let Stays = λ (line : Line). Survives c.args.buffer.now.mark c.args.buffer.now.kept (equation_of line) in
    let old = c.args.lines.now in
    let places = c.args.places.now in
    let key = c.loop-key.key in
    let Q : Slab Line → List Bool → Type 0 = λ s ps. DropsBelow Stays (key + 1) old s places ps in
    elim c.match-retired_place.branch [
      | in-Some w ↦
          (let found = w.in-Some.ensures.some in
          let within : found.0.place < length c.loop-key.places =
          (let p = (c.requires.within key found.0 (c.loop-key.invariant.left key found.0 found.1).0).place in
          let n = c.requires.places in
          let same = c.loop-key.invariant.count in
          omega (arith, p, n, same)) in
          let next = drops_one Stays key old c.loop-key.lines places c.loop-key.places c.loop-key.invariant w.remove.new.self found.0
          found.1 found.3 within w.remove.ensures.updates w.remove.ensures.len w.remove.ensures.capacity in
          let set_at : set c.loop-key.places found.0.place false ≡ c.match-retired_place.places =
          ap (λ (p : ℕ). set c.loop-key.places p false) found.2 ∙ sym w.release.ensures ∙ sym w.places-is in
          subst (λ (s : Slab Line). Q s c.match-retired_place.places) (sym w.lines-is)
          (subst (λ (ps : List Bool). Q w.remove.new.self ps) set_at next))
      | in_default w ↦
          (let next = drops_passed Stays key old c.loop-key.lines places c.loop-key.places c.loop-key.invariant w.in_default.ensures.none in
          subst (λ (s : Slab Line). Q s c.match-retired_place.places) (sym w.lines-is)
          (subst (λ (ps : List Bool). Q c.loop-key.lines ps) (sym w.places-is) next))
    ]

pub returns : goal.returns
returns c =
    drops_all (λ (line : Line). Survives c.args.buffer.now.mark c.args.buffer.now.kept (equation_of line)) c.loop-key.key
    c.args.lines.now c.loop-key.lines c.args.places.now c.loop-key.places c.loop-key.invariant
    (λ key line is. let within = c.end_of-key-end.ensures key line is in omega (arith, within, c.loop-key-test.false))
