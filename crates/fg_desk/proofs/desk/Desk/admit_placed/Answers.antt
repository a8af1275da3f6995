use Rattle.std.proofs.Common.{◌≡◌, ℕ, Some, refl, ap, sym, subst, ◌∙◌}
use Rattle.fg_words.specs.declared.Word.{Word}
use Rattle.fg_peel.proofs.Options.{some_and_from}
use Rattle.fg_playout.specs.declared.reply.Reply.TheVariants.{Admitted}
use Rattle.fg_playout.specs.State.{State}
use Rattle.fg_playout.specs.Admission.{Parity, IsEquationReply, IsAfterParity, IsLeastFree, base_on, equation_at, with_equation}
use Rattle.fg_desk.specs.Contents.{Contents}
use Rattle.fg_desk.proofs.DeskCounts.{counted_after_parity, placed_after, parity_reply_at}
use Rattle.fg_desk.proofs.desk.Desk.admit_placed.Goals as goal

pub returns-in_default-equation_reply : goal.returns-in_default-equation_reply
returns-in_default-equation_reply c =
    let old = c.args.self.now in
    let parity : Parity = record { base = c.args.base; offset = c.args.shape.offset; count = c.args.shape.na; word = c.args.share } in
    let counts = c.refuse-in_default-equation_reply.ensures in
    record {
      state = record {
        reply_is = parity_reply_at old.state parity c.in-Some.base c.equation_reply.result
            (sym c.base_position.ensures.value ∙ c.in-Some.is)
            (subst
            (λ (word : Word). IsEquationReply old.state
            (record { base = c.in-Some.base; offset = c.args.shape.offset; count = c.args.shape.na; parity = word })
            c.equation_reply.result) c.word.ensures.word c.equation_reply.ensures);
        after = subst (λ (s : State). IsAfterParity old.state parity c.equation_reply.result s)
            (sym (ap (λ (s : Contents). s.state) counts))
            (counted_after_parity old.state parity c.equation_reply.result c.in_default-equation_reply.not-Admitted);
      };
      rest = subst (λ (s : Contents). s ≡ record old { state = s.state }) (sym counts) refl;
      place = c.in_default-equation_reply.not-Admitted;
    }

pub returns-in-Admitted-clause-state : goal.returns-in-Admitted-clause-state
returns-in-Admitted-clause-state c =
    let old = c.args.self.now in
    let new : State = c.add-place.new.self.state in
    let parity : Parity = record {
      base = c.args.base;
      offset = c.args.shape.offset;
      count = c.args.shape.na;
      word = c.args.share;
    } in
    let on : base_on old.state parity.base ≡ Some c.in-Some.base = sym c.base_position.ensures.value ∙ c.in-Some.is in
    record {
      reply_is = parity_reply_at old.state parity c.in-Some.base Admitted on
          (subst
          (λ (word : Word). IsEquationReply old.state
          (record { base = c.in-Some.base; offset = c.args.shape.offset; count = c.args.shape.na; parity = word }) Admitted)
          c.word.ensures.word c.in-Admitted.ensures);
      after = some_and_from (base_on old.state parity.base)
          (λ (position : ℕ). (place : ℕ) × IsLeastFree old.state.equations place
          × (new ≡ with_equation old.state place (equation_at position parity)))
          c.in-Some.base on
          (c.add-place.result, c.add-place.ensures.0, ap (λ (s : Contents). s.state) c.add-place.ensures.1);
    }

pub returns-in-Admitted-clause-place : goal.returns-in-Admitted-clause-place
returns-in-Admitted-clause-place c =
    placed_after c.args.self.now.state c.add-place.new.self.state c.add-place.result
    (record { base = c.in-Some.base; offset = c.args.shape.offset; count = c.args.shape.na; parity = c.args.share })
    (ap (λ (s : Contents). s.state) c.add-place.ensures.1)
