use Rattle.std.proofs.Common.{rules, sym, subst, inr, List, ◌++◌}
use Rattle.std.specs.Prelude.{Some}
use Rattle.fg_turn.specs.Entries.{Entry, entry_of, told_of}
use Rattle.fg_turn.proofs.Keeping.{serves_after}
use Rattle.fg_turn.proofs.steps.serve_owner.Goals as goal

pub fetch_add-served-requires : goal.fetch_add-served-requires
fetch_add-served-requires g c = let G = g.S.Guarded in let did = c.requires.step in let entry = did.0 in let old = did.1 in let new = c.args.state in (
  search rules,
  search rules,
  serves_after G.owner G.grows _ _ _ c.args.seat.now.me.0 c.put.new.seat.me c.requires.inside.0.0.0 old new (entry_of g.N.Named.entries) (told_of g.N.Named.entries) c.put.ensures.put c.requires.inside.0.0.1 did.3
      (inr c.requires.inside.1)
      (λ calls met. subst (λ (z : List Entry). G.owner (calls ++ z) new) (sym did.2) (G.extends calls entry old new met did.4))
      (λ calls told met rests. G.stays calls told (Some entry) old new met did.4 rests)
      (λ a b. G.both a b new) c.requires.grows,
)
