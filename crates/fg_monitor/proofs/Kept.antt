-- What a monitor keeps, as it is fed.
use Rattle.std.proofs.Common.{◌≡◌, ◌≢◌, ◌⊎◌, ◌↔◌, inl, inr, ⊎_elim, ℕ, ◌+◌, ◌%◌, ◌<◌, ◌≤◌, IsTrue, Option, None, Some, IfSome, List, [], ◌∷◌, ◌++◌, length, get_or, refl, sym, ap, ◌∙◌, subst, arith}
use Rattle.std.proofs.lemmas.Bool.{cases_eq, cases_lt}
use Rattle.std.proofs.lemmas.List.{get_or_push, get_or_past, get_or-replicate, get_or-set_same, get_or-set_other, length_push, length-replicate}
use Rattle.std.proofs.Math.ListN.{replicate, set}
use Rattle.fg_ts.specs.Fields.{AnnouncesBreak, HasPayload, counter_of, null_pid, pid_of}
use Rattle.fg_monitor.specs.declared.continuity.Break.{Break}
use Rattle.fg_monitor.specs.declared.continuity.Last.{Last}
use Rattle.fg_monitor.specs.Continuity.{packet_at, IsLastBefore, Follows, IsRepeat, IsFirstRepeat, GoesOn, IsToldOf}
use Rattle.fg_monitor.specs.Kept.{MonitorState, Describes, HasSeen, IsKept}
use Rattle.fg_monitor.specs.Steps.{GoesOnFrom, IsBreakOf, Repeats, RepeatsFirst}
use Rattle.fg_monitor.proofs.Later.{Agree, agree_back, last_before, longer_agrees, one_last, repeat}

-- By what is kept of the packet before

module _ (packets : List (List ℕ)) (i j : ℕ) (last : Last) (follows : Follows packets i j) (k : Describes packets j last) where
  repeats : Repeats last (packet_at packets i) → IsRepeat packets i
  repeats h = record {
    before = j;
    follows = follows;
    payload = h.payload;
    payload_before = k.payload.0 h.payload_before;
    same = h.same ∙ k.counter;
    unannounced = h.unannounced;
  }

  is_repeat : IsRepeat packets i → Repeats last (packet_at packets i)
  is_repeat h =
      let same : h.before ≡ j = one_last packets (pid_of (packet_at packets i)) i h.before j h.follows follows in
      record {
        payload = h.payload;
        payload_before = k.payload.1 (subst (λ n. HasPayload (packet_at packets n)) same h.payload_before);
        same = h.same ∙ ap (λ n. counter_of (packet_at packets n)) same ∙ sym k.counter;
        unannounced = h.unannounced;
      }

  goes_on : GoesOnFrom last (packet_at packets i) → GoesOn packets i j
  goes_on h = (
    λ payload. ⊎_elim
        (λ (rises : counter_of (packet_at packets i) ≡ (last.counter + 1) % 16). inl (rises ∙ ap (λ c. (c + 1) % 16) k.counter))
        (λ (first : RepeatsFirst last (packet_at packets i)). inr (record {
          payload_before = k.payload.0 first.payload_before;
          same = first.same ∙ k.counter;
          single = λ again. first.single (k.repeat.1 again);
        }))
        (h.0 payload),
    λ none. h.1 none ∙ k.counter,
  )

  has_gone_on : GoesOn packets i j → GoesOnFrom last (packet_at packets i)
  has_gone_on h = (
    λ payload. ⊎_elim
        (λ (rises : counter_of (packet_at packets i) ≡ (counter_of (packet_at packets j) + 1) % 16). inl (rises ∙ ap (λ c. (c + 1) % 16) (sym k.counter)))
        (λ (first : IsFirstRepeat packets i j). inr (record {
          payload_before = k.payload.1 first.payload_before;
          same = first.same ∙ sym k.counter;
          single = λ again. first.single (k.repeat.0 again);
        }))
        (h.0 payload),
    λ none. h.1 none ∙ sym k.counter,
  )

-- One more packet

module _ (packets : List (List ℕ)) (packet : List ℕ) where
  abbrev more : List (List ℕ)
  more = packets ++ packet ∷ []

  abbrev number : ℕ
  number = length packets

  at_number : packet_at more number ≡ packet
  at_number = get_or_push packets packet [] number refl

  at_late : (i : ℕ) → number ≤ i → i < number + 1 → packet_at more i ≡ packet
  at_late i late within = let same : i ≡ number = omega arith in ap (λ n. packet_at more n) same ∙ at_number

  counted : length more ≡ number + 1
  counted = length_push packets packet

  agrees : Agree packets more number
  agrees = longer_agrees packets (packet ∷ [])

  described : (j : ℕ) (last : Last) → j < number → Describes packets j last → Describes more j last
  described j last early h = record {
    counter = h.counter ∙ ap (λ (t : List ℕ). counter_of t) (agrees j early);
    payload = subst (λ (t : List ℕ). IsTrue last.payload ↔ HasPayload t) (agrees j early) h.payload;
    repeat = (
      λ set. repeat packets more number j agrees early (h.repeat.0 set),
      λ is. h.repeat.1 (repeat more packets number j (agree_back packets more number agrees) early is),
    );
  }

  -- a packet of another PID changes nothing of what is kept
  pub kept_other : (pid : ℕ) (kept : Option Last) → pid_of packet ≢ pid → IsKept packets pid kept → IsKept more pid kept
  kept_other pid None other h = λ i within is. ⊎_elim
      (λ (early : i < number). h i early (ap (λ (t : List ℕ). pid_of t) (agrees i early) ∙ is))
      (λ (late : number ≤ i). other (sym (ap (λ (t : List ℕ). pid_of t) (at_late i late (omega (arith, within, counted)))) ∙ is))
      (cases_lt i number)
  kept_other pid (Some last) other h =
      let j : ℕ = h.0 in
      let early = h.1.earlier in
      let before = last_before packets more number pid number j agrees (omega arith) h.1 in (
        j,
        record {
          earlier = omega (arith, early, counted);
          of_pid = before.of_pid;
          none_between = λ k after below is. ⊎_elim
              (λ (there : k < number). before.none_between k after there is)
              (λ (late : number ≤ k). other (sym (ap (λ (t : List ℕ). pid_of t) (at_late k late (omega (arith, below, counted)))) ∙ is))
              (cases_lt k number);
        },
        described j last early h.2,
      )

  -- the last packet of the new one's PID is that of all packets before
  follows : (pid j : ℕ) → pid_of packet ≡ pid → IsLastBefore packets pid number j → Follows more number j
  follows pid j is h =
      subst (λ n. IsLastBefore more n number j) (sym is ∙ sym (ap (λ (t : List ℕ). pid_of t) at_number)) (last_before packets more number pid number j agrees (omega arith) h)

  -- where there was none, the new one follows none
  first : (pid : ℕ) → pid_of packet ≡ pid → IsKept packets pid None → (j : ℕ) → ¬ Follows more number j
  first pid is h j k =
      h j k.earlier (ap (λ (t : List ℕ). pid_of t) (agrees j k.earlier) ∙ k.of_pid ∙ ap (λ (t : List ℕ). pid_of t) at_number ∙ is)

  -- the new packet is the last of its PID
  newest : (pid : ℕ) → pid_of packet ≡ pid → IsLastBefore more pid (length more) number
  newest pid is = record {
    earlier = omega (arith, counted);
    of_pid = ap (λ (t : List ℕ). pid_of t) at_number ∙ is;
    none_between = λ k after below same. absurd (omega (arith, after, below, counted));
  }

  -- what is kept of it, where this was kept of the last of its PID
  is_repeat_by : (pid : ℕ) (before : Option Last) (now : Last) → pid_of packet ≡ pid → IsKept packets pid before
      → (before ≡ None → ¬ IsTrue now.repeat) → IfSome before (λ last. IsTrue now.repeat ↔ Repeats last packet)
      → IsTrue now.repeat ↔ IsRepeat more number
  is_repeat_by pid None now is h none some = (λ set. absurd (none refl set), λ k. absurd (first pid is h k.before k.follows))
  is_repeat_by pid (Some last) now is h none some =
      let j : ℕ = h.0 in
      let early = h.1.earlier in
      let on = follows pid j is h.1 in
      let of = described j last early h.2 in (
        λ set. repeats more number j last on of (subst (λ (t : List ℕ). Repeats last t) (sym at_number) (some.0 set)),
        λ k. some.1 (subst (λ (t : List ℕ). Repeats last t) at_number (is_repeat more number j last on of k)),
      )

  pub kept_newest : (pid : ℕ) (before : Option Last) (now : Last) → pid_of packet ≡ pid → IsKept packets pid before
      → now.counter ≡ counter_of packet → IsTrue now.payload ↔ HasPayload packet
      → (before ≡ None → ¬ IsTrue now.repeat) → IfSome before (λ last. IsTrue now.repeat ↔ Repeats last packet)
      → IsKept more pid (Some now)
  kept_newest pid before now is h counter payload none some = (
    number,
    newest pid is,
    record {
      counter = counter ∙ sym (ap (λ (t : List ℕ). counter_of t) at_number);
      payload = subst (λ (t : List ℕ). IsTrue now.payload ↔ HasPayload t) (sym at_number) payload;
      repeat = is_repeat_by pid before now is h none some;
    },
  )

  -- What there is to tell of it

  pub tells_null : pid_of packet ≡ null_pid → IsToldOf more number None
  tells_null is = λ last h. h.counted (ap (λ (t : List ℕ). pid_of t) at_number ∙ is)

  tells_first : (pid : ℕ) → pid_of packet ≡ pid → IsKept packets pid None → IsToldOf more number None
  tells_first pid is h = λ last k. first pid is h last k.follows

  tells_none : (pid : ℕ) (before : Last) → pid_of packet ≡ pid → IsKept packets pid (Some before)
      → AnnouncesBreak packet ⊎ GoesOnFrom before packet → IsToldOf more number None
  tells_none pid before is h (inl announces) = λ last k. k.unannounced (subst (λ (t : List ℕ). AnnouncesBreak t) (sym at_number) announces)
  tells_none pid before is h (inr on) = λ last k.
      let j : ℕ = h.0 in
      let early = h.1.earlier in
      let here = follows pid j is h.1 in
      let same : j ≡ last = one_last more (pid_of (packet_at more number)) number j last here k.follows in
      k.breaks (subst (λ n. GoesOn more number n) same
      (goes_on more number j before here (described j before early h.2) (subst (λ (t : List ℕ). GoesOnFrom before t) (sym at_number) on)))

  tells_break : (pid : ℕ) (before : Last) (told : Break) → pid_of packet ≡ pid → IsKept packets pid (Some before) → pid_of packet ≢ null_pid
      → ¬ (AnnouncesBreak packet ⊎ GoesOnFrom before packet)
      → told.packet ≡ number → told.pid ≡ pid_of packet → told.counter ≡ counter_of packet → told.before ≡ before.counter
      → IsToldOf more number (Some told)
  tells_break pid before told is h counted broken packet_is pid_is counter_is before_is =
      let j : ℕ = h.0 in
      let early = h.1.earlier in
      let here = follows pid j is h.1 in
      let of = described j before early h.2 in
      record {
        last = j;
        fault = record {
          counted = λ null. counted (sym (ap (λ (t : List ℕ). pid_of t) at_number) ∙ null);
          follows = here;
          unannounced = λ announces. broken (inl (subst (λ (t : List ℕ). AnnouncesBreak t) at_number announces));
          breaks = λ on. broken (inr (subst (λ (t : List ℕ). GoesOnFrom before t) at_number (has_gone_on more number j before here of on)));
        };
        packet = packet_is;
        pid = pid_is ∙ sym (ap (λ (t : List ℕ). pid_of t) at_number);
        counter = counter_is ∙ sym (ap (λ (t : List ℕ). counter_of t) at_number);
        before = before_is ∙ of.counter;
      }

pub tells : (packets : List (List ℕ)) (packet : List ℕ) (pid fed : ℕ) (before : Option Last) (told : Option Break) → pid_of packet ≡ pid → IsKept packets pid before → pid_of packet ≢ null_pid
    → fed ≡ length packets → IsBreakOf fed before packet told → IsToldOf (packets ++ packet ∷ []) (length packets) told
tells packets packet pid fed None None is h right same k = tells_first packets packet pid is h
tells packets packet pid fed None (Some told) is h right same k = absurd k
tells packets packet pid fed (Some last) None is h right same k = tells_none packets packet pid last is h k
tells packets packet pid fed (Some last) (Some told) is h right same k =
    tells_break packets packet pid last told is h right k.0 (ap (λ (b : Break). b.packet) k.1 ∙ same) (ap (λ (b : Break). b.pid) k.1) (ap (λ (b : Break). b.counter) k.1) (ap (λ (b : Break). b.before) k.1)

-- A monitor is fed

kept_at : (pid null : ℕ) → pid ≡ null → (q : ℕ) → q < null → pid ≢ q
kept_at pid null is q below same = omega arith

pub seen_null : (monitor : MonitorState) (fed : ℕ) (packets : List (List ℕ)) (packet : List ℕ) → HasSeen monitor packets → fed ≡ monitor.fed + 1 → pid_of packet ≡ null_pid
    → HasSeen (record { fed = fed; lasts = monitor.lasts }) (packets ++ packet ∷ [])
seen_null monitor fed packets packet h one null = record {
  fed = one ∙ ap (λ n. n + 1) h.fed ∙ sym (length_push packets packet);
  lasts = λ q below. kept_other packets packet q (get_or monitor.lasts q None) (kept_at (pid_of packet) null_pid null q below) (h.lasts q below);
}

pub seen_more : (monitor : MonitorState) (fed pid : ℕ) (packets : List (List ℕ)) (packet : List ℕ) (before : Option Last) (now : Last)
    → HasSeen monitor packets → fed ≡ monitor.fed + 1 → pid < length monitor.lasts → pid_of packet ≡ pid → before ≡ get_or monitor.lasts pid None
    → now.counter ≡ counter_of packet → IsTrue now.payload ↔ HasPayload packet
    → (before ≡ None → ¬ IsTrue now.repeat) → IfSome before (λ last. IsTrue now.repeat ↔ Repeats last packet)
    → HasSeen (record { fed = fed; lasts = set monitor.lasts pid (Some now) }) (packets ++ packet ∷ [])
seen_more monitor fed pid packets packet before now h one there is kept counter payload none some = record {
  fed = one ∙ ap (λ n. n + 1) h.fed ∙ sym (length_push packets packet);
  lasts = λ q below. ⊎_elim
      (λ (same : q ≡ pid).
      let within : pid < null_pid = omega arith in
      let was : IsKept packets pid before = subst (λ (t : Option Last). IsKept packets pid t) (sym kept) (h.lasts pid within) in
      subst (λ n. IsKept (packets ++ packet ∷ []) n (get_or (set monitor.lasts pid (Some now)) n None)) (sym same)
      (subst (λ (t : Option Last). IsKept (packets ++ packet ∷ []) pid t) (sym (get_or-set_same monitor.lasts pid (Some now) None there))
      (kept_newest packets packet pid before now is was counter payload none some)))
      (λ (other : q ≢ pid).
      subst (λ (t : Option Last). IsKept (packets ++ packet ∷ []) q t) (sym (get_or-set_other monitor.lasts pid q (Some now) None other))
      (kept_other packets packet q (get_or monitor.lasts q None) (λ same. other (sym same ∙ is)) (h.lasts q below)))
      (cases_eq q pid);
}

pub kept_before : (monitor : MonitorState) (pid : ℕ) (packets : List (List ℕ)) (before : Option Last) → HasSeen monitor packets → pid < null_pid → before ≡ get_or monitor.lasts pid None → IsKept packets pid before
kept_before monitor pid packets before h within kept = subst (λ (t : Option Last). IsKept packets pid t) (sym kept) (h.lasts pid within)

none_at : (n q : ℕ) → get_or (let l : List (Option Last) = replicate n None in l) q None ≡ None
none_at n q = ⊎_elim (λ (there : q < n). get_or-replicate n q None None there) (λ (past : n ≤ q). let none : List (Option Last) = replicate n None in get_or_past none q None (omega (arith, length-replicate n (let o : Option Last = None in o)))) (cases_lt q n)

pub unfed : (n : ℕ) → HasSeen (record { fed = 0; lasts = replicate n None }) []
unfed n = record { fed = refl; lasts = λ q below. subst (λ (t : Option Last). IsKept [] q t) (sym (none_at n q)) (λ i within. absurd (omega arith)) }
