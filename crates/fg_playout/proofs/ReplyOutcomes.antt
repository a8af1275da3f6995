-- Each datagram gets a reply, and a desk is left.
use Rattle.std.proofs.Common.{◌≡◌, ◌≢◌, ◌+◌, ◌<◌, ℕ, Option, Some, None, MatchOption, inl, inr, refl, ap, ◌∙◌, ⊎_elim}
use Rattle.std.specs.Bool.{⊤}
use Rattle.std.proofs.lemmas.Bool.{cases_lt, cases_eq}
use Rattle.std.proofs.lemmas.Option.{MatchOption-at_none, MatchOption-at_some}
use Rattle.std.specs.List.{Contains}
use Rattle.std.specs.FinMap.{get, entries, len}
use Rattle.fg_words.specs.declared.Word.{Word}
use Rattle.fg_unwrap.specs.Position.{position_of}
use Rattle.fg_peel.specs.Equation.{Equation, slots}
use Rattle.fg_peel.proofs.Options.{none_or_some, some_and_from, none_has_no_value, has_value}
use Rattle.fg_peel.proofs.Maps.{get_of_entry, entry_of_get}
use Rattle.fg_playout.specs.declared.reply.Reply.{Reply}
use Rattle.fg_playout.specs.declared.reply.Reply.TheVariants.{Admitted, Duplicate, Conflict, Late, NotStarted, BeforeStart, Ahead, Crowded, Foreign}
use Rattle.fg_playout.specs.State.{State, Top, Live, last_slot}
use Rattle.fg_playout.specs.Admission.{Parity, Sender, former, own, another, sender_of, run_by, run_on, position_by, base_on, IsReplyAt, IsReplyBy, IsMediaReply, AdmitsMedia, IsLate, IsFree, IsLeastFree, HaveSameSlots, HasTwin, IsEquationReply, IsParityReply, AdmitsParity, counted, position_on, with_media, with_equation, equation_at, live_limit, kept_count}
use Rattle.fg_playout.specs.Existence.{MediaHasOutcome, ParityHasOutcome}
use Rattle.fg_peel.proofs.Places.{free_place}
use Rattle.fg_playout.proofs.Decided.{IsDecided, decided_both, decided_either, decided_as, decided_all, decided_any, least_of, decided_words, decided_less, decided_most}

-- Media datagrams

-- A reply, and a desk that has the window of the one before.
pub record MediaOutcome (old : State) (seq ssrc : ℕ) (word : Word) : Type 0 where
  pub reply : Reply
  pub new : State
  pub admits : AdmitsMedia old seq ssrc word reply new
  pub window : new.playout.window ≡ old.playout.window

module _ (old : State) (seq : ℕ) (word : Word) where
  reply_at : (position : ℕ) → (reply : Reply) × IsReplyAt old position word reply
  reply_at position = ⊎_elim
      (λ below. (Late, below))
      (λ ahead. ⊎_elim
      (λ none. (Admitted, (ahead, none)))
      (λ some. ⊎_elim
      (λ same. (Duplicate, (ahead, some.1 ∙ ap Some same)))
      (λ other. (Conflict, (ahead, some_and_from (get old.media position) (λ (w : Word). w ≢ word) some.0 some.1 other)))
      (decided_words some.0 word))
      (none_or_some (get old.media position)))
      (cases_lt position old.mark)

  reply_by : (sender : Sender) → (reply : Reply) × IsReplyBy old seq word reply sender
  reply_by former = (Foreign, refl)
  reply_by another = (Admitted, refl)
  reply_by (own top) = at_position (position_of top.position top.seq seq)
    where
      at_position :
          (o : Option ℕ) → (reply : Reply) × MatchOption o (reply ≡ Late) (λ position. IsReplyAt old position word reply)
      at_position None = (Late, refl)
      at_position (Some position) = reply_at position

  -- An admitted datagram has a position.
  admitted_at :
      (sender : Sender) → IsReplyBy old seq word Admitted sender → (position : ℕ) × (position_by old seq sender ≡ Some position)
  admitted_at former replies = absurd (cc)
  admitted_at another replies = (old.mark, refl)
  admitted_at (own top) replies = ⊎_elim
      (λ none.
      let late : Admitted ≡ Late = MatchOption-at_none (Admitted ≡ Late) (λ (position : ℕ). IsReplyAt old position word Admitted) none replies in
      absurd (cc))
      (λ some. some)
      (none_or_some (position_of top.position top.seq seq))

  run_keeps_window : (sender : Sender) → (run_by old sender).playout.window ≡ old.playout.window
  run_keeps_window former = refl
  run_keeps_window (own top) = refl
  run_keeps_window another = refl

module _ (old : State) (seq ssrc : ℕ) (word : Word) where
  after_media : (reply : Reply) → IsMediaReply old seq ssrc word reply → MediaOutcome old seq ssrc word
  after_media Admitted replies =
      let p = admitted_at old seq word (sender_of old ssrc) replies in
      record {
        reply = Admitted;
        new = with_media (run_on old ssrc) seq ssrc p.0 word;
        admits = record {
          reply_is = replies;
          after = some_and_from (position_on old seq ssrc)
              (λ (q : ℕ). with_media (run_on old ssrc) seq ssrc p.0 word ≡ with_media (run_on old ssrc) seq ssrc q word) p.0 p.1 refl;
        };
        window = run_keeps_window old seq word (sender_of old ssrc);
      }
  after_media other replies =
      record { reply = other; new = counted old; admits = record { reply_is = replies; after = refl }; window = refl }

  pub media_outcome : MediaOutcome old seq ssrc word
  media_outcome = let r = reply_by old seq word (sender_of old ssrc) in after_media r.0 r.1

pub media_has_outcome : MediaHasOutcome
media_has_outcome old seq ssrc word = let o = media_outcome old seq ssrc word in (o.reply, o.new, o.admits)

-- Parity datagrams

pub record ParityOutcome (old : State) (parity : Parity) : Type 0 where
  pub reply : Reply
  pub new : State
  pub admits : AdmitsParity old parity reply new
  pub window : new.playout.window ≡ old.playout.window

decided_same_slots : (one other : Equation) → IsDecided (HaveSameSlots one other)
decided_same_slots one other =
    let Counts : Type 0 = one.count ≡ other.count in
    let Offsets : Type 0 = (one.offset ≡ other.offset) × Counts in
    decided_as ((one.base ≡ other.base) × Offsets) (HaveSameSlots one other)
    (λ f. record { base_is = f.0; offset_is = f.1.0; count_is = f.1.1 })
    (λ h. (h.base_is, (h.offset_is, h.count_is)))
    (decided_both (one.base ≡ other.base) Offsets (cases_eq one.base other.base)
    (decided_both (one.offset ≡ other.offset) Counts (cases_eq one.offset other.offset) (cases_eq one.count other.count)))

module _ (old : State) (equation : Equation) where
  abbrev IsUnkept : ℕ → Type 0
  IsUnkept slot = (slot < old.mark) × (get old.kept slot ≡ None)

  decided_unkept : (slot : ℕ) → IsDecided (IsUnkept slot)
  decided_unkept slot = decided_both (slot < old.mark) (get old.kept slot ≡ None) (decided_less slot old.mark)
      (⊎_elim
      (λ none. inl none)
      (λ some. inr (λ none. none_has_no_value (get old.kept slot) none (has_value (get old.kept slot) some.0 some.1)))
      (none_or_some (get old.kept slot)))

  decided_late : IsDecided (IsLate old equation)
  decided_late =
      let Gone : Type 0 = (slot : ℕ) × Contains (slots equation) slot × (slot < old.mark) × (get old.kept slot ≡ None) in
      decided_either (last_slot equation < old.mark) Gone (decided_less (last_slot equation) old.mark)
      (decided_as ((slot : ℕ) × Contains (slots equation) slot × IsUnkept slot) Gone
      (λ s. (s.0, s.1, s.2.0, s.2.1))
      (λ s. (s.0, s.1, (s.2, s.3)))
      (decided_any IsUnkept decided_unkept (slots equation)))

  decided_twin : IsDecided (HasTwin old equation (λ _. ⊤))
  decided_twin =
      let IsTwin : ℕ × Live → Type 0 = λ e. HaveSameSlots e.1.equation equation in
      decided_as ((e : ℕ × Live) × Contains (entries old.equations) e × IsTwin e) (HasTwin old equation (λ _. ⊤))
      (λ t. (t.0.0, t.0.1, get_of_entry old.equations t.0 t.1, t.2, tt))
      (λ t. ((t.0, t.1), entry_of_get old.equations t.0 t.1 t.2, t.3))
      (decided_any IsTwin (λ e. decided_same_slots e.1.equation equation) (entries old.equations))

  equation_reply : (reply : Reply) × IsEquationReply old equation reply
  equation_reply = ⊎_elim
      (λ late. (Late, late))
      (λ not_late. ⊎_elim
      (λ ahead. (Ahead, (not_late, ahead)))
      (λ not_ahead. ⊎_elim
      (λ twin. ⊎_elim
      (λ same. (Duplicate, ((not_late, not_ahead), (twin.0, twin.1, twin.2, twin.3, same))))
      (λ other. (Conflict, ((not_late, not_ahead), (twin.0, twin.1, twin.2, twin.3, other))))
      (decided_words twin.1.equation.parity equation.parity))
      (λ no_twin. ⊎_elim
      (λ room. (Admitted, ((not_late, not_ahead), no_twin, room)))
      (λ full. (Crowded, ((not_late, not_ahead), no_twin, full)))
      (cases_lt (len old.equations) live_limit))
      decided_twin)
      (decided_most (old.mark + old.playout.depth + kept_count) (last_slot equation)))
      decided_late

decided_free : (old : State) (place : ℕ) → IsDecided (IsFree old.equations place)
decided_free old place =
    let IsElsewhere : ℕ × Live → Type 0 = λ e. e.1.place ≢ place in
    decided_as ((e : ℕ × Live) → Contains (entries old.equations) e → IsElsewhere e) (IsFree old.equations place)
    (λ all serial live is. all (serial, live) (entry_of_get old.equations serial live is))
    (λ free e c. free e.0 e.1 (get_of_entry old.equations e c))
    (decided_all IsElsewhere
    (λ e. ⊎_elim (λ same. inr (λ other. other same)) (λ other. inl other) (cases_eq e.1.place place))
    (entries old.equations))

least_free : (old : State) → len old.equations < live_limit → (place : ℕ) × IsLeastFree old.equations place
least_free old room =
    let free = free_place old.equations live_limit room in
    least_of (IsFree old.equations) (decided_free old) free.0 free.2

module _ (old : State) (parity : Parity) where
  abbrev AtBase : Reply → Option ℕ → Type 0
  AtBase reply o = MatchOption o (reply ≡ BeforeStart) (λ position. IsEquationReply old (equation_at position parity) reply)

  abbrev AtTop : Reply → Option Top → Type 0
  AtTop reply o = MatchOption o (reply ≡ NotStarted) (λ _. AtBase reply (base_on old parity.base))

  parity_reply : (reply : Reply) × IsParityReply old parity reply
  parity_reply = at_top old.top
    where
      at_base : (o : Option ℕ) → (reply : Reply) × AtBase reply o
      at_base None = (BeforeStart, refl)
      at_base (Some position) = equation_reply old (equation_at position parity)

      at_top : (o : Option Top) → (reply : Reply) × AtTop reply o
      at_top None = (NotStarted, refl)
      at_top (Some top) = at_base (base_on old parity.base)

  -- An admitted datagram's base has a position.
  admitted_based :
      IsParityReply old parity Admitted
      → (position : ℕ) × (base_on old parity.base ≡ Some position) × IsEquationReply old (equation_at position parity) Admitted
  admitted_based replies = ⊎_elim
      (λ none.
      let never : Admitted ≡ NotStarted = MatchOption-at_none (Admitted ≡ NotStarted)
      (λ (t : Top). AtBase Admitted (base_on old parity.base)) none replies in
      absurd (cc))
      (λ top.
      let at = MatchOption-at_some (Admitted ≡ NotStarted)
      (λ (t : Top). AtBase Admitted (base_on old parity.base)) top.0 top.1 replies in
      ⊎_elim
      (λ none.
      let never : Admitted ≡ BeforeStart = MatchOption-at_none (Admitted ≡ BeforeStart)
      (λ (position : ℕ). IsEquationReply old (equation_at position parity) Admitted) none at in
      absurd (cc))
      (λ some. (
        some.0,
        some.1,
        MatchOption-at_some (Admitted ≡ BeforeStart)
            (λ (position : ℕ). IsEquationReply old (equation_at position parity) Admitted) some.0 some.1 at,
      ))
      (none_or_some (base_on old parity.base)))
      (none_or_some old.top)

  after_parity : (reply : Reply) → IsParityReply old parity reply → ParityOutcome old parity
  after_parity Admitted replies =
      let p = admitted_based replies in
      let place = least_free old p.2.2 in
      let new : State = with_equation old place.0 (equation_at p.0 parity) in
      record {
        reply = Admitted;
        new = new;
        admits = record {
          reply_is = replies;
          after = some_and_from (base_on old parity.base)
              (λ (position : ℕ). (place : ℕ) × IsLeastFree old.equations place × (new ≡ with_equation old place (equation_at position parity)))
              p.0 p.1 (place.0, place.1, refl);
        };
        window = refl;
      }
  after_parity other replies =
      record { reply = other; new = counted old; admits = record { reply_is = replies; after = refl }; window = refl }

  pub parity_outcome : ParityOutcome old parity
  parity_outcome = let r = parity_reply in after_parity r.0 r.1

pub parity_has_outcome : ParityHasOutcome
parity_has_outcome old parity = let o = parity_outcome old parity in (o.reply, o.new, o.admits)
