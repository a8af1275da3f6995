use Rattle.std.proofs.Common.{◌∙◌, ℕ, List, Option, None, Some, refl, subst, sym}
use Rattle.fg_check.specs.declared.walk.Checked.TheVariants as told
use Rattle.fg_check.specs.Text.{IsFirstUnproved}
use Rattle.fg_check.proofs.Walks.{told_open, told_whole}
use Rattle.fg_check.proofs.walk.Walk.told_at_end.Goals as goal

pub returns-then-is_some : goal.returns-then-is_some
returns-then-is_some c = λ first now before after h. told_open c.args.self.now first now before after h (sym c.is_some.ensures ∙ c.if-is_some.true) c.requires.end

pub returns-in-Some : goal.returns-in-Some
returns-in-Some c = λ first now before after h.
    told_whole (told.Unproved c.in-Some.number) c.args.self.now first now before after h (sym c.is_some.ensures ∙ c.if-is_some.false) c.requires.end
    (refl, subst (λ (o : Option ℕ). IsFirstUnproved h.told.answers o) c.in-Some.is h.told.unproved) (λ read rest none. none)

pub returns-in-None : goal.returns-in-None
returns-in-None c = λ first now before after h.
    told_whole told.Done c.args.self.now first now before after h (sym c.is_some.ensures ∙ c.if-is_some.false) c.requires.end
    (refl, subst (λ (o : Option ℕ). IsFirstUnproved h.told.answers o) c.in-None.is h.told.unproved) (λ read rest none. none)
