-- What was taken so far is the front of the piece.
use Rattle.std.proofs.Common.{◌≡◌, ℕ, ◌+◌, ◌-◌, List, ◌++◌, length, take, drop, sym, ◌∙◌, inl, arith}
use Rattle.std.proofs.lemmas.Grind.{common_steps}
use Rattle.std.proofs.lemmas.List.{take_rest}
use Rattle.std.proofs.Math.Seq.{take-add}
use Rattle.fg_io.specs.Sink.{GainsPart}
use Rattle.fg_io.proofs.PrefixLemmas.{IsPrefix-take}
use Rattle.fg_io.proofs.SinkLemmas.{Gains-trans}
use Rattle.fg_io.proofs.sink.write_all.Goals as goal

-- the first n bytes, and then the first m of those that are left, are the first n + m
take_then : (n m : ℕ) (bytes : List ℕ) → take n bytes ++ take m (take (length bytes - n) (drop n bytes)) ≡ take (n + m) bytes
take_then n m bytes = rw take_rest (sym (take-add n m bytes))

pub returns-in-Ok-eq0-clause-part : goal.returns-in-Ok-eq0-clause-part
returns-in-Ok-eq0-clause-part g c =
    let n = c.loop-taken.taken + c.in-Ok-eq0.field-0 in (
      take n c.args.piece.now,
      IsPrefix-take n c.args.piece.now,
      rw (← take_then c.loop-taken.taken c.in-Ok-eq0.field-0 c.args.piece.now)
          (Gains-trans _ _ _ _ _ c.loop-taken.invariant.1 c.in-Ok-eq0.ensures.gains),
    )

pub loop-taken-preserved : goal.loop-taken-preserved
loop-taken-preserved g c = (
  grind (arith, common_steps, c.in-Ok.ensures.bound, c.loop-taken.invariant.0),
  rw (← take_then c.loop-taken.taken c.in-Ok.count c.args.piece.now)
      (Gains-trans _ _ _ _ _ c.loop-taken.invariant.1 c.in-Ok.ensures.gains),
  c.in-Ok.ensures.no_fault (inl (omega (arith, c.in-Ok.count-test))) ∙ c.loop-taken.invariant.2,
)

pub returns-in-Err-clause-part : goal.returns-in-Err-clause-part
returns-in-Err-clause-part g c =
    let gained : GainsPart (g.K.Sink.written c.args.sink.now) c.args.piece.now (g.K.Sink.written c.write.new.self) =
    (take c.loop-taken.taken c.args.piece.now, IsPrefix-take c.loop-taken.taken c.args.piece.now, c.in-Err.ensures.failed ∙ c.loop-taken.invariant.1) in
    gained
