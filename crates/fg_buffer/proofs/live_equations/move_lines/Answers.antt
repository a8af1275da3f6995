use Rattle.std.proofs.Common.{◌+◌, ℕ, List, not, subst, sym, arith}
use Rattle.slab.specs.Slab.{Slab, get}
use Rattle.fg_peel.specs.declared.Line.{Line}
use Rattle.fg_buffer.specs.PlayoutBuffer.{buffer_words}
use Rattle.fg_buffer.specs.LiveInside.{IsWithin, IsCompleteAs, AreKeyed}
use Rattle.fg_buffer.proofs.LiveKeys.{keyed_same, moved_keyed}
use Rattle.fg_buffer.proofs.LiveViews.{place_of, one_value}
use Rattle.fg_buffer.proofs.LiveMoves.{MovesBelow, moves_none, moves_passed, moves_one, moves_all, moves_same}
use Rattle.fg_buffer.proofs.live_equations.move_lines.Goals as goal
use Rattle.fg_buffer.proofs.live_equations.move_lines.Goals.{then-goes, else-goes}

pub loop-key-init : goal.loop-key-init
loop-key-init c =
    let words = buffer_words c.args.buffer.now in
    (moves_none (IsCompleteAs (not c.args.complete) words) (IsCompleteAs c.args.complete words) c.args.source.now c.args.target.now, c.requires.keyed)

pub goes-requires : goal.goes-requires
goes-requires c = λ key line is. c.requires.within key line (c.loop-key.invariant.0.left key line is).0

pub bounds-keys-place : goal.bounds-keys-place
bounds-keys-place c =
    let was = (c.loop-key.invariant.0.left c.loop-key.key c.remove-line.result c.remove-line.ensures.value).0 in
    let within = (c.requires.within c.loop-key.key c.remove-line.result was).place in
    let count = c.loop-key.invariant.1.count in
    omega (arith, within, count)

pub loop-key-preserved : goal.loop-key-preserved
loop-key-preserved c =
    let words = buffer_words c.args.buffer.now in
    let IsLeft = IsCompleteAs (not c.args.complete) words in
    let IsGone = IsCompleteAs c.args.complete words in
    let source = c.args.source.now in
    let target = c.args.target.now in
    let Q : Slab Line → Slab Line → List ℕ → Type 0 =
    λ s t ks. MovesBelow IsLeft IsGone (c.loop-key.key + 1) source target s t × AreKeyed ks s t in
    elim c.if-goes.branch [
      | then-goes w ↦
          (let found = c.goes.ensures.goes w.if-goes.true in
          let line = w.remove-line.result in
          let at = w.remove-line.ensures.value in
          let same = one_value (get c.loop-key.source c.loop-key.key) found.0 line found.1 at in
          let goes = subst IsGone same found.2 in
          let next = moves_one IsLeft IsGone c.loop-key.key source target c.loop-key.source c.loop-key.target c.loop-key.invariant.0
          w.remove-line.new.self w.insert_reserved.new.self w.insert_reserved.result line
          at goes w.remove-line.ensures.updates w.remove-line.ensures.len
          w.remove-line.ensures.capacity w.insert_reserved.ensures.was_vacant w.insert_reserved.ensures.updates
          w.insert_reserved.ensures.len w.insert_reserved.ensures.capacity in
          let within : IsWithin line = c.requires.within c.loop-key.key line (c.loop-key.invariant.0.left c.loop-key.key line at).0 in
          let keyed = moved_keyed c.loop-key.keys c.loop-key.source c.loop-key.target c.loop-key.invariant.1
          w.remove-line.new.self w.insert_reserved.new.self c.loop-key.key w.insert_reserved.result line
          (c.loop-key.invariant.0.over.each place_of c.requires.numbers) within.place at w.remove-line.ensures.updates
          w.insert_reserved.ensures.updates in
          subst (λ (s : Slab Line). Q s c.if-goes.target c.if-goes.keys) (sym w.source-is)
          (subst (λ (t : Slab Line). Q w.remove-line.new.self t c.if-goes.keys) (sym w.target-is)
          (subst (λ (ks : List ℕ). Q w.remove-line.new.self w.insert_reserved.new.self ks) (sym w.keys-is) (next, keyed))))
      | else-goes w ↦
          (let next = moves_passed IsLeft IsGone c.loop-key.key source target c.loop-key.source c.loop-key.target c.loop-key.invariant.0
          (c.goes.ensures.stays w.if-goes.false) in
          subst (λ (s : Slab Line). Q s c.if-goes.target c.if-goes.keys) (sym w.source-is)
          (subst (λ (t : Slab Line). Q c.loop-key.source t c.if-goes.keys) (sym w.target-is)
          (subst (λ (ks : List ℕ). Q c.loop-key.source c.loop-key.target ks) (sym w.keys-is) (next, c.loop-key.invariant.1))))
    ]

pub returns-clause-moves : goal.returns-clause-moves
returns-clause-moves c =
    let words = buffer_words c.args.buffer.now in
    let IsLeft = IsCompleteAs (not c.args.complete) words in
    let IsGone = IsCompleteAs c.args.complete words in
    let vacant = c.forget_vacant.ensures in
    moves_same IsLeft IsGone c.args.source.now c.args.target.now c.loop-key.source c.loop-key.target c.forget_vacant.new.lines
    (moves_all IsLeft IsGone c.loop-key.key c.args.source.now c.args.target.now c.loop-key.source c.loop-key.target
    c.loop-key.invariant.0
    (λ key line is. let within = c.end_of-key-end.ensures key line is in omega (arith, within, c.loop-key-test.false)))
    vacant.same vacant.count vacant.capacity

pub returns-clause-keyed : goal.returns-clause-keyed
returns-clause-keyed c =
    keyed_same c.loop-key.keys c.loop-key.source c.loop-key.target c.forget_vacant.new.lines c.forget_vacant.ensures.same c.loop-key.invariant.1
