use Rattle.std.proofs.Common.{rules, sym, refl, subst, inl, List}
use Rattle.std.specs.Prelude.{None}
use mathlib.Core.List.{append-nil}
use Rattle.fg_turn.specs.Entries.{Entry}
use Rattle.fg_turn.proofs.Keeping.{serves_after}
use Rattle.fg_turn.proofs.steps.serve.Goals as goal

pub fetch_add-served-requires : goal.fetch_add-served-requires
fetch_add-served-requires g c = let G = g.S.Guarded in let old = c.requires.step.0 in let new = c.args.state in let follows = c.requires.step.2 in (
  search rules,
  search rules,
  serves_after G.owner G.grows _ _ _ c.args.seat.now.me.0 c.put.new.seat.me c.requires.inside.0.0 old new _ g.N.Named.entries c.put.ensures.put c.requires.inside.0.1 c.requires.step.1 (inl refl)
      (λ calls met. subst (λ (z : List Entry). G.owner z new) (sym (append-nil calls)) (G.keeps calls old new met follows))
      (λ calls told met rests. G.stays calls told None old new met follows rests)
      (λ a b. G.both a b new) c.requires.grows,
)
