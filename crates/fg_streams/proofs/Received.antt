-- What stands once a datagram was received.
use Rattle.std.proofs.Common.{◌≡◌, ℕ, ◌≤◌, max, Option, Some, None, List, [], ◌∷◌, ◌++◌, get_or, refl, sym, ap, ◌∙◌, subst, arith}
use Rattle.std.specs.Option.{option_or}
use Rattle.std.proofs.lemmas.List.{ext_get_or}
use Rattle.fg_streams.specs.declared.fates.Fate.{Fate}
use Rattle.fg_streams.specs.declared.fates.Fate.TheVariants.{Late, Ahead}
use Rattle.fg_streams.specs.declared.span.Span.{Span}
use Rattle.fg_streams.specs.declared.times.Times.{Times}
use Rattle.fg_streams.specs.Arrival.{Arrival, position_in, raised, span_of, time_at, time_if_at}
use Rattle.fg_streams.specs.Bursts.{times_of}
use Rattle.fg_streams.specs.Fates.{fate_in}
use Rattle.fg_streams.specs.Steps.{HasReceived, Keeps, fate_by, times_after}
use Rattle.fg_streams.proofs.Positions.{all_times, fate_then, here, how_many, now_is, or_none, same_times, time_in, times_then}

pub received : (before : List Arrival) (a : Arrival) (s now : Span) (p : ℕ) (times : Times) (fate : Fate)
    → Some s ≡ span_of before → Some p ≡ position_in (Some s) a.seq → s.first ≤ p → now ≡ (record { first = s.first; top = max s.top p })
    → Keeps times (times_after s p a.time (times_of before)) → fate ≡ fate_by s p (times_of before) → HasReceived before a (Some now) times fate
received before a s now p times own known place from is keeps is_fate =
    let was = all_times before s known in
    record {
      span_is = ap (λ (n : Span). Some n) is ∙ now_is before a s p known place from;
      keeps = subst (λ (t : List (Option ℕ)). Keeps times t) (ap (λ (t : List (Option ℕ)). times_after s p a.time t) was ∙ sym (times_then before a s p known place from)) keeps;
      fate_is = is_fate ∙ ap (λ (t : List (Option ℕ)). fate_by s p t) was ∙ sym (fate_then before a s p known place from);
    }

pub was_late : (before : List Arrival) (a : Arrival) (s : Span) (times : Times) → Some s ≡ span_of before → None ≡ position_in (Some s) a.seq → Keeps times (times_of before) → HasReceived before a (Some s) times Late
was_late before a s times known late keeps =
    let unplaced : position_in (span_of before) a.seq ≡ None = ap (λ (o : Option Span). position_in o a.seq) (sym known) ∙ sym late in
    let same : Some s ≡ span_of (a ∷ before) = ap (λ (o : Option ℕ). Some (raised (Some s) a.seq o)) late ∙ ap (λ (o : Option Span). Some (raised o a.seq (position_in o a.seq))) known in
    let stays = same_times a before s s refl refl (λ q. ap (λ (o : Option ℕ). option_or (time_at before q) (time_if_at o a.time q)) unplaced ∙ or_none (time_at before q)) in
    record {
      span_is = same;
      keeps = subst (λ (t : List (Option ℕ)). Keeps times t) (all_times before s known ∙ sym stays ∙ sym (all_times (a ∷ before) s same)) keeps;
      fate_is = sym (ap (λ (o : Option ℕ). fate_in before (span_of before) o) unplaced);
    }

pub first_times : (a : Arrival) → times_of (a ∷ []) ≡ Some a.time ∷ []
first_times a =
    let none : Option ℕ = None in
    let s : Span = record { first = a.seq; top = a.seq } in
    let many = how_many (a ∷ []) s in
    ext_get_or none (times_of (a ∷ [])) (Some a.time ∷ []) (omega (arith, many))
    (λ i within.
    let at : i ≡ 0 = omega (arith, within, many) in
    time_in (a ∷ []) s i a.seq (omega (arith, at)) (omega (arith, at)) ∙ here a.seq a.seq a.time refl ∙ ap (λ k. get_or (Some a.time ∷ []) k none) (sym at))

pub was_first : (before : List Arrival) (a : Arrival) (times : Times) → None ≡ span_of before
    → ((all : List (Option ℕ)) → all ≡ times_of before → Keeps times (all ++ Some a.time ∷ []))
    → HasReceived before a (Some (record { first = a.seq; top = a.seq })) times (Ahead 0)
was_first [] a times none keeps = record {
  span_is = refl;
  keeps = subst (λ (t : List (Option ℕ)). Keeps times t) (sym (first_times a)) (keeps [] refl);
  fate_is = refl;
}
was_first (b ∷ before) a times none keeps = absurd cc
