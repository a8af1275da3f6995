use Rattle.std.proofs.Common.{◌≡◌, ◌+◌, ◌++◌, ◌∷◌, ◌≤◌, ◌^◌, ℕ, List, [], Option, take, ap, refl, subst, sym, arith}
use Rattle.fg_io.proofs.FaultLemmas.{on_err}
use Rattle.fg_proof.specs.declared.case.Case.{Case}
use Rattle.fg_check.specs.declared.gathering.Taken.{Taken}
use Rattle.fg_check.specs.declared.gathering.Taken.TheVariants as taken
use Rattle.fg_check.specs.declared.lines.Lines.{Lines}
use Rattle.fg_check.specs.declared.walk.Walk.{Walk}
use Rattle.fg_check.specs.Steps.{Breaks, HasTold, IsUnderway, Stands, TakesText}
use Rattle.fg_check.proofs.Telling.{tells_more}
use Rattle.fg_check.proofs.Walks.{breaks_after, breaks_before, few_rules, few_taken, few_told, step_taken, unfit_held}
use Rattle.fg_check.proofs.walk.Walk.take_text.Goals as goal

pub returns-in_err-take_text-clause-part : goal.returns-in_err-take_text-clause-part
returns-in_err-take_text-clause-part g c =
    let walk = c.args.self.now in
    let written = g.K.Sink.written c.args.out.now in
    let P : Type 0 = (first : Option (List ℕ)) (now : Option (List ℕ)) (before : Option (List ℕ)) → IsUnderway first now walk before written → Breaks walk.max first now before written in
    let part : P = λ first now before h. breaks_before walk first now before written h in
    on_err _ P part

pub step_over-requires-clause-few : goal.step_over-requires-clause-few
step_over-requires-clause-few g c =
    let h = c.requires.underway in few_taken c.args.self.now h.0 h.1 h.2 (g.K.Sink.written c.args.out.now) c.args.count h.3 c.requires.line.1

pub step_over-requires-in-Whole-clause-few : goal.step_over-requires-in-Whole-clause-few
step_over-requires-in-Whole-clause-few g c =
    let h = c.requires.underway in few_taken c.args.self.now h.0 h.1 h.2 (g.K.Sink.written c.args.out.now) c.args.count h.3 c.requires.line.1

pub judge-requires : goal.judge-requires
judge-requires g c =
    let h = c.requires.underway in
    let walk = c.args.self.now in
    few_rules walk h.0 h.1 h.2 (g.K.Sink.written c.args.out.now) (take c.args.count c.held.result.now) c.in-Whole.case c.take_text.new.opened h.3
    (subst (λ (t : Taken). TakesText walk.opened (take c.args.count c.held.result.now) t c.take_text.new.opened) c.in-Whole.is c.in_ok-take_text.ensures)

pub add-requires : goal.add-requires
add-requires g c =
    let h = c.requires.underway in few_told c.args.self.now h.0 h.1 h.2 (g.K.Sink.written c.args.out.now) c.args.count h.3 c.requires.line.1

pub returns-in_err-add-in-Whole-clause-part : goal.returns-in_err-add-in-Whole-clause-part
returns-in_err-add-in-Whole-clause-part g c =
    let walk = c.args.self.now in
    let written = g.K.Sink.written c.args.out.now in
    let after = g.K.Sink.written c.add.new.out in
    let takes : TakesText walk.opened (take c.args.count walk.input.held) (taken.Whole c.in-Whole.case) c.take_text.new.opened =
    subst (λ (l : List ℕ). TakesText walk.opened (take c.args.count l) (taken.Whole c.in-Whole.case) c.take_text.new.opened) c.held.ensures.value
    (subst (λ (t : Taken). TakesText walk.opened (take c.args.count c.held.result.now) t c.take_text.new.opened) c.in-Whole.is c.in_ok-take_text.ensures) in
    let P : Type 0 = (first : Option (List ℕ)) (now : Option (List ℕ)) (before : Option (List ℕ)) → IsUnderway first now walk before written → Breaks walk.max first now before after in
    let part : P = λ first now before h.
    breaks_after walk first now before written after c.args.count c.in-Whole.case c.judge.result c.take_text.new.opened h c.requires.line takes c.judge.ensures c.in_err-add-in-Whole.ensures.part in
    on_err _ P part

pub returns-in-More-clause-more : goal.returns-in-More-clause-more
returns-in-More-clause-more g c = λ first now before h.
    let walk = c.args.self.now in
    let written = g.K.Sink.written c.args.out.now in
    let takes : TakesText walk.opened (take c.args.count walk.input.held) taken.More c.take_text.new.opened =
    subst (λ (l : List ℕ). TakesText walk.opened (take c.args.count l) taken.More c.take_text.new.opened) c.held.ensures.value
    (subst (λ (t : Taken). TakesText walk.opened (take c.args.count c.held.result.now) t c.take_text.new.opened) c.in-More.is c.in_ok-take_text.ensures) in
    let new = c.step_over.new.self in
    let is = c.step_over.ensures in
    step_taken walk new first now before written written c.args.count h.cases h c.requires.line (ap (λ (w : Walk). w.input) is) (ap (λ (w : Walk). w.max) is) (ap (λ (w : Walk). w.number) is)
    (subst (λ (o : Option Case). Stands (h.lines ++ take c.args.count walk.input.held ∷ []) h.cases o) (sym (ap (λ (w : Walk). w.opened) is)) (takes h.lines h.cases h.stands))
    (subst (λ (l : Lines). HasTold h.cases l before written) (sym (ap (λ (w : Walk). w.lines) is)) h.told)

pub returns-in_ok-add-in-Whole-clause-more : goal.returns-in_ok-add-in-Whole-clause-more
returns-in_ok-add-in-Whole-clause-more g c = λ first now before h.
    let walk = c.args.self.now in
    let written = g.K.Sink.written c.args.out.now in
    let after = g.K.Sink.written c.add.new.out in
    let case = c.in-Whole.case in
    let takes : TakesText walk.opened (take c.args.count walk.input.held) (taken.Whole case) c.take_text.new.opened =
    subst (λ (l : List ℕ). TakesText walk.opened (take c.args.count l) (taken.Whole case) c.take_text.new.opened) c.held.ensures.value
    (subst (λ (t : Taken). TakesText walk.opened (take c.args.count c.held.result.now) t c.take_text.new.opened) c.in-Whole.is c.in_ok-take_text.ensures) in
    let new = c.step_over-in-Whole.new.self in
    let is = c.step_over-in-Whole.ensures in
    let told = tells_more h.cases case c.judge.result walk.lines c.add.new.self before written after h.told c.judge.ensures c.in_ok-add-in-Whole.ensures.sent c.in_ok-add-in-Whole.ensures.cases
    c.in_ok-add-in-Whole.ensures.unproved in
    step_taken walk new first now before written after c.args.count (h.cases ++ case ∷ []) h c.requires.line (ap (λ (w : Walk). w.input) is) (ap (λ (w : Walk). w.max) is) (ap (λ (w : Walk). w.number) is)
    (subst (λ (o : Option Case). Stands (h.lines ++ take c.args.count walk.input.held ∷ []) (h.cases ++ case ∷ []) o) (sym (ap (λ (w : Walk). w.opened) is)) (takes h.lines h.cases h.stands))
    (subst (λ (l : Lines). HasTold (h.cases ++ case ∷ []) l before after) (sym (ap (λ (w : Walk). w.lines) is)) told)

pub returns-in-Refused-clause-ends : goal.returns-in-Refused-clause-ends
returns-in-Refused-clause-ends g c = λ first now before h.
    let walk = c.args.self.now in
    let written = g.K.Sink.written c.args.out.now in
    let new : Walk = record walk { opened = c.take_text.new.opened } in
    let takes : TakesText walk.opened (take c.args.count walk.input.held) taken.Refused c.take_text.new.opened =
    subst (λ (l : List ℕ). TakesText walk.opened (take c.args.count l) taken.Refused c.take_text.new.opened) c.held.ensures.value
    (subst (λ (t : Taken). TakesText walk.opened (take c.args.count c.held.result.now) t c.take_text.new.opened) c.in-Refused.is c.in_ok-take_text.ensures) in
    unfit_held walk new first now before written c.args.count c.take_text.new.opened h c.requires.line takes refl refl refl
