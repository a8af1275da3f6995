-- What a parity datagram makes of what is known and live.
use Rattle.std.proofs.Common.{◌≡◌, ℕ, inl, sym, ap, subst, ◌∙◌, arith}
use Rattle.std.specs.List.{Contains}
use Rattle.fg_peel.specs.Equation.{Equation}
use Rattle.fg_peel.specs.Laws.{PeelingsTakeEquations}
use Rattle.fg_peel.proofs.Options.{some_and}
use Rattle.fg_peel.proofs.Maps.{beside_inserted}
use Rattle.fg_playout.specs.declared.reply.Reply.{Reply}
use Rattle.fg_playout.specs.declared.reply.Reply.TheVariants.{Admitted}
use Rattle.fg_playout.specs.State.{State, known, live_equations}
use Rattle.fg_playout.specs.Admission.{Parity, AdmitsParity, IsParityReply, IsAfterParity, IsLeastFree, base_on, with_equation, equation_at}
use Rattle.fg_playout.specs.Facts.{Holds}
use Rattle.fg_playout.specs.Laws.{ParityAdds}
use Rattle.fg_desk.specs.Contents.{Contents, AreSolved}
use Rattle.fg_core.proofs.Next.{IsNext, AreBareKept, is_next_counted}

-- The desk with one more equation.
module _ (old : Contents) (place : ℕ) (equation : Equation) where
  abbrev protected : Contents
  protected = record old { state = with_equation old.state place equation }

  module _
      (take_equations : PeelingsTakeEquations) (solved : AreSolved old) (bare : AreBareKept old)
      (listed :
      (e : Equation) → Contains (live_equations old.state) e
      → Contains (live_equations (with_equation old.state place equation)) e) where
    is_next_protected : IsNext old protected
    is_next_protected = record {
      mark = omega arith;
      admitted = omega arith;
      epoch = omega arith;
      one_more = omega arith;
      words = λ _ slot word _ is. is;
      lives = λ serial live below is.
          sym (beside_inserted old.state.equations old.state.admitted (record { place = place; equation = equation }) serial
          (λ same. omega (arith, same, below))) ∙ is;
      solved = record {
        peeled = (
          solved.peeled.0,
          take_equations (known old.state) (live_equations old.state)
              (live_equations (with_equation old.state place equation)) solved.peeled.0 listed solved.peeled.1,
          solved.peeled.2,
        );
        beside = solved.beside;
      };
      bare = bare;
    }

module _
    (parity_adds : ParityAdds) (take_equations : PeelingsTakeEquations) (old new : Contents) (parity : Parity)
    (holds : Holds old.state) (solved : AreSolved old) (bare : AreBareKept old)
    (rest : new ≡ record old { state = new.state }) where
  admitted_is_next : AdmitsParity old.state parity Admitted new.state → IsNext old new
  admitted_is_next admits =
      let a = some_and (base_on old.state parity.base) (λ (position : ℕ).
      (place : ℕ) × IsLeastFree old.state.equations place
      × (new.state ≡ with_equation old.state place (equation_at position parity))) admits.after in
      let place : ℕ = a.2.0 in
      let equation : Equation = equation_at a.0 parity in
      let adds = parity_adds old.state new.state parity holds admits in
      let same : new ≡ record old { state = with_equation old.state place equation } =
      rest ∙ ap (λ (s : State). record old { state = s }) a.2.2 in
      subst (λ (d : Contents). IsNext old d) (sym same)
      (is_next_protected old place equation take_equations solved bare
      (λ e listed. subst (λ (s : State). Contains (live_equations s) e) a.2.2 ((adds.2 e).1 (inl listed))))

  pub parity_is_next : (reply : Reply) → AdmitsParity old.state parity reply new.state → IsNext old new
  parity_is_next reply admits = go reply admits.reply_is admits.after
    where
      go : (reply : Reply) → IsParityReply old.state parity reply → IsAfterParity old.state parity reply new.state → IsNext old new
      go Admitted is after = admitted_is_next (record { reply_is = is; after = after })
      go other is after = is_next_counted old new solved bare rest after
