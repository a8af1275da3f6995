use Rattle.std.proofs.Common.{◌≡◌, ⊎_elim, subst}
use Rattle.fg_peel.specs.Live.{IsFree}
use Rattle.fg_buffer.specs.LiveEquations.{LiveState, IsLiveLine}
use Rattle.fg_peel.specs.declared.Line.{Line}
use Rattle.fg_buffer.specs.LiveInside.{Holds}
use Rattle.fg_buffer.proofs.LiveCalls.{told_settled, told_none, found_first, free_place_of}
use Rattle.fg_buffer.proofs.live_equations.LiveEquations.at.Goals as goal

pub returns-in-Some-clause-some : goal.returns-in-Some-clause-some
returns-in-Some-clause-some c =
    let IsSought : Line → Type 0 = (λ (l : Line). l.place ≡ c.args.place) in
    let line = c.in-Some.line.now in
    subst (λ (s : LiveState). IsLiveLine s line × IsSought line) c.self.view_is
    (found_first c.self.inside.open c.self.inside.settled c.self.inside.places c.self.invariant.sound IsSought line c.in-Some.ensures.some)

pub returns-in-None-clause-some : goal.returns-in-None-clause-some
returns-in-None-clause-some c =
    let IsSought : Line → Type 0 = (λ (l : Line). l.place ≡ c.args.place) in
    told_settled c.self.inside.open c.self.inside.settled c.self.inside.places c.args.self.now c.self.view_is
    c.self.invariant.sound IsSought c.find_place-in-None.result c.find_place-in-None.ensures.some

pub returns-in-None-clause-none : goal.returns-in-None-clause-none
returns-in-None-clause-none c =
    let IsSought : Line → Type 0 = (λ (l : Line). l.place ≡ c.args.place) in
    told_none ((line : Line) → Holds c.self.inside.settled line → IsSought line → ⊥)
    (IsFree c.args.self.now.live c.args.place) c.find_place-in-None.result
    (λ none.
    subst (λ (s : LiveState). IsFree s.live c.args.place) c.self.view_is
    (free_place_of c.self.inside.open c.self.inside.settled c.self.inside.places c.self.invariant.sound c.args.place
    (λ line stands. ⊎_elim (λ a. c.in-None.ensures.none line a) (λ b. none line b) stands)))
    c.find_place-in-None.ensures.none
