use Rattle.std.proofs.Common.{◌≡◌, ◌∙◌, Option, OnErr, Result, List, ℕ, refl, subst}
use Rattle.fg_io.specs.Texts.{ReadTexts}
use Rattle.fg_io.proofs.FaultLemmas.{on_err}
use Rattle.fg_walk.proofs.walking.walk.Goals as goal

-- what a fault leaves, told by what was given when the walk began
part_of : {T E G : Type 0} (came : Result T E) (Part : G → ReadTexts) (now_given given : G) (New : Option (List ℕ) → Type 0) (now before after : Option (List ℕ)) → now_given ≡ given → ((first : Option (List ℕ)) → New first → Part now_given first now before after)
    → OnErr came ((first : Option (List ℕ)) → New first → Part given first now before after)
part_of came Part now_given given New now before after same h = on_err came _ (λ first new. subst (λ given. Part given first now before after) same (h first new))

pub begin-requires : goal.begin-requires
begin-requires g c = (c.args.reader.now, c.requires.0, g.S.Source.left c.args.input.now, c.requires.1)

pub returns-in_err-begin-clause-part : goal.returns-in_err-begin-clause-part
returns-in_err-begin-clause-part g c =
    part_of _ g.W.Walking.part _ _ _ _ _ _ refl (λ first new. c.in_err-begin.ensures.part c.args.reader.now first _ new)

pub walk_on-requires : goal.walk_on-requires
walk_on-requires g c =
    let left = g.S.Source.left c.args.input.now in
    (c.requires.0, g.K.Sink.written c.args.out.now, c.in_ok-begin.ensures.underway c.args.reader.now c.requires.0 left c.requires.1)

pub returns-in_err-ending-clause-part : goal.returns-in_err-ending-clause-part
returns-in_err-ending-clause-part g c =
    part_of _ g.W.Walking.part _ _ _ _ _ _ (c.begin.ensures.given c.args.reader.now)
    (λ first new. c.in_err-ending.ensures.part first _ (c.in_ok-begin.ensures.underway c.args.reader.now first _ new))

pub end-requires : goal.end-requires
end-requires g c =
    let left = g.S.Source.left c.args.input.now in
    let now = g.S.Source.left c.walk_on.new.input in
    let before = g.K.Sink.written c.args.out.now in (
      c.walk_on.new.reader,
      c.requires.0,
      now,
      before,
      c.in_ok-ending.ensures.whole c.requires.0 before (c.in_ok-begin.ensures.underway c.args.reader.now c.requires.0 left c.requires.1),
    )

pub returns-in_err-end-clause-part : goal.returns-in_err-end-clause-part
returns-in_err-end-clause-part g c =
    part_of _ g.W.Walking.part _ _ _ _ _ _ (c.walk_on.ensures.given ∙ c.begin.ensures.given c.args.reader.now)
    (λ first new. c.in_err-end.ensures.part c.walk_on.new.reader first _ _ (c.in_ok-ending.ensures.whole first _ (c.in_ok-begin.ensures.underway c.args.reader.now first _ new)))

pub returns-clause-whole : goal.returns-clause-whole
returns-clause-whole g c = λ first new.
    let left = g.S.Source.left c.args.input.now in
    let now = g.S.Source.left c.walk_on.new.input in
    let before = g.K.Sink.written c.args.out.now in
    let after = g.K.Sink.written c.end.new.out in
    subst (λ given. g.W.Walking.whole given c.end.new.self c.in_ok-ending.ending first now before after) (c.walk_on.ensures.given ∙ c.begin.ensures.given c.args.reader.now)
    (c.in_ok-end.ensures.whole c.walk_on.new.reader first now before
    (c.in_ok-ending.ensures.whole first before (c.in_ok-begin.ensures.underway c.args.reader.now first left new)))
