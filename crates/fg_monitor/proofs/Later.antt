-- What is told of a packet follows from it and the packets before it.
use Rattle.std.proofs.Common.{◌≡◌, inl, inr, ⊎_elim, ℕ, ◌+◌, ◌%◌, ◌<◌, ◌≤◌, Option, None, Some, List, ◌++◌, [], length, refl, sym, ap, ◌∙◌, subst, arith}
use Rattle.std.proofs.lemmas.Bool.{cases_lt}
use Rattle.std.proofs.lemmas.List.{get_or_append_left}
use Rattle.fg_ts.specs.Fields.{AnnouncesBreak, HasPayload, counter_of, pid_of}
use Rattle.fg_monitor.specs.declared.continuity.Break.{Break}
use Rattle.fg_monitor.specs.Continuity.{packet_at, IsLastBefore, Follows, IsRepeat, IsFirstRepeat, GoesOn, IsFault, IsToldOf}
use Rattle.fg_monitor.specs.Laws.{LaterChangesNothing, OneToTell}

-- Lists that agree

-- The lists have the same packets before this number.
abbrev pub Agree : List (List ℕ) → List (List ℕ) → ℕ → Type 0
Agree p q n = (i : ℕ) → i < n → packet_at p i ≡ packet_at q i

pub agree_back : (p q : List (List ℕ)) (n : ℕ) → Agree p q n → Agree q p n
agree_back p q n agree = λ i within. sym (agree i within)

pub longer_agrees : (packets later : List (List ℕ)) → Agree packets (packets ++ later) (length packets)
longer_agrees packets later = λ i within. sym (get_or_append_left packets later [] i within)

pub last_before : (p q : List (List ℕ)) (n pid i last : ℕ) → Agree p q n → i ≤ n → IsLastBefore p pid i last → IsLastBefore q pid i last
last_before p q n pid i last agree within h =
    let early = h.earlier in
    let there : last < n = omega arith in
    record {
      earlier = h.earlier;
      of_pid = sym (ap (λ (t : List ℕ). pid_of t) (agree last there)) ∙ h.of_pid;
      none_between = λ k after before is.
          let inside : k < n = omega arith in
          h.none_between k after before (ap (λ (t : List ℕ). pid_of t) (agree k inside) ∙ is);
    }

pub follows : (p q : List (List ℕ)) (n i before : ℕ) → Agree p q n → i < n → Follows p i before → Follows q i before
follows p q n i before agree within h =
    subst (λ pid. IsLastBefore q pid i before) (ap (λ (t : List ℕ). pid_of t) (agree i within))
    (last_before p q n (pid_of (packet_at p i)) i before agree (omega arith) h)

counters : (p q : List (List ℕ)) (n i : ℕ) → Agree p q n → i < n → counter_of (packet_at q i) ≡ counter_of (packet_at p i)
counters p q n i agree within = sym (ap (λ (t : List ℕ). counter_of t) (agree i within))

pub repeat : (p q : List (List ℕ)) (n i : ℕ) → Agree p q n → i < n → IsRepeat p i → IsRepeat q i
repeat p q n i agree within h =
    let early = h.follows.earlier in
    let there : h.before < n = omega arith in
    record {
      before = h.before;
      follows = follows p q n i h.before agree within h.follows;
      payload = subst (λ (t : List ℕ). HasPayload t) (agree i within) h.payload;
      payload_before = subst (λ (t : List ℕ). HasPayload t) (agree h.before there) h.payload_before;
      same = counters p q n i agree within ∙ h.same ∙ sym (counters p q n h.before agree there);
      unannounced = subst (λ (t : List ℕ). ¬ AnnouncesBreak t) (agree i within) h.unannounced;
    }

first_repeat : (p q : List (List ℕ)) (n i before : ℕ) → Agree p q n → i < n → before < n → IsFirstRepeat p i before → IsFirstRepeat q i before
first_repeat p q n i before agree within there h = record {
  payload_before = subst (λ (t : List ℕ). HasPayload t) (agree before there) h.payload_before;
  same = counters p q n i agree within ∙ h.same ∙ sym (counters p q n before agree there);
  single = λ again. h.single (repeat q p n before (agree_back p q n agree) there again);
}

goes_on : (p q : List (List ℕ)) (n i before : ℕ) → Agree p q n → i < n → before < n → GoesOn p i before → GoesOn q i before
goes_on p q n i before agree within there h = (
  λ payload. ⊎_elim
      (λ (rises : counter_of (packet_at p i) ≡ (counter_of (packet_at p before) + 1) % 16).
      inl (counters p q n i agree within ∙ rises ∙ ap (λ c. (c + 1) % 16) (sym (counters p q n before agree there))))
      (λ (first : IsFirstRepeat p i before). inr (first_repeat p q n i before agree within there first))
      (h.0 (subst (λ (t : List ℕ). HasPayload t) (sym (agree i within)) payload)),
  λ none. counters p q n i agree within ∙ h.1 (λ payload. none (subst (λ (t : List ℕ). HasPayload t) (agree i within) payload))
      ∙ sym (counters p q n before agree there),
)

fault : (p q : List (List ℕ)) (n i before : ℕ) → Agree p q n → i < n → IsFault p i before → IsFault q i before
fault p q n i before agree within h =
    let early = h.follows.earlier in
    let there : before < n = omega arith in
    record {
      counted = λ null. h.counted (ap (λ (t : List ℕ). pid_of t) (agree i within) ∙ null);
      follows = follows p q n i before agree within h.follows;
      unannounced = subst (λ (t : List ℕ). ¬ AnnouncesBreak t) (agree i within) h.unannounced;
      breaks = λ on. h.breaks (goes_on q p n i before (agree_back p q n agree) within there on);
    }

pub told_of : (p q : List (List ℕ)) (n i : ℕ) (told : Option Break) → Agree p q n → i < n → IsToldOf p i told → IsToldOf q i told
told_of p q n i None agree within h = λ last broken. h last (fault q p n i last (agree_back p q n agree) within broken)
told_of p q n i (Some told) agree within h =
    let early = h.fault.follows.earlier in
    let there : h.last < n = omega arith in
    record {
      last = h.last;
      fault = fault p q n i h.last agree within h.fault;
      packet = h.packet;
      pid = h.pid ∙ ap (λ (t : List ℕ). pid_of t) (agree i within);
      counter = h.counter ∙ sym (counters p q n i agree within);
      before = h.before ∙ sym (counters p q n h.last agree there);
    }

pub later_changes_nothing : LaterChangesNothing
later_changes_nothing packets later i told within = (
  λ h. told_of packets (packets ++ later) (length packets) i told (longer_agrees packets later) within h,
  λ h. told_of (packets ++ later) packets (length packets) i told (agree_back packets (packets ++ later) (length packets) (longer_agrees packets later)) within h,
)

-- One to tell

pub one_last : (packets : List (List ℕ)) (pid i a b : ℕ) → IsLastBefore packets pid i a → IsLastBefore packets pid i b → a ≡ b
one_last packets pid i a b h k = ⊎_elim
    (λ (less : a < b). absurd (h.none_between b less k.earlier k.of_pid))
    (λ (most : b ≤ a). ⊎_elim (λ (less : b < a). absurd (k.none_between a less h.earlier h.of_pid)) (λ (least : a ≤ b). omega arith) (cases_lt b a))
    (cases_lt a b)

pub one_to_tell : OneToTell
one_to_tell packets i None None h k = refl
one_to_tell packets i None (Some other) h k = absurd (h k.last k.fault)
one_to_tell packets i (Some one) None h k = absurd (k h.last h.fault)
one_to_tell packets i (Some one) (Some other) h k =
    let last : h.last ≡ k.last = one_last packets (pid_of (packet_at packets i)) i h.last k.last h.fault.follows k.fault.follows in
    let make : ℕ → ℕ → ℕ → ℕ → Option Break = λ packet pid counter before. Some (record { packet = packet; pid = pid; counter = counter; before = before }) in
    ap (λ n. make n one.pid one.counter one.before) (h.packet ∙ sym k.packet)
    ∙ ap (λ n. make other.packet n one.counter one.before) (h.pid ∙ sym k.pid)
    ∙ ap (λ n. make other.packet other.pid n one.before) (h.counter ∙ sym k.counter)
    ∙ ap (λ n. make other.packet other.pid other.counter n) (h.before ∙ ap (λ j. counter_of (packet_at packets j)) last ∙ sym k.before)
