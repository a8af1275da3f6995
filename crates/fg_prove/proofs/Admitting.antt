-- What comes of a datagram that is taken.
use Rattle.std.proofs.Common.{◌≡◌, ◌≢◌, ◌++◌, ℕ, List, [], Option, Some, None, inl, inr, ⊎_elim, refl, sym, subst}
use Rattle.fg_words.specs.declared.Word.{Word}
use Rattle.fg_rtp.specs.MediaDatagram.{IsMediaDatagram}
use Rattle.fg_rtp.specs.Laws.{ReadsOneWay}
use Rattle.fg_fechead.specs.declared.Parity.{Parity as ParityRead}
use Rattle.fg_fechead.specs.ParityDatagram.{IsParityDatagram}
use Rattle.fg_shape.specs.declared.kind.Kind.{Kind}
use Rattle.fg_shape.specs.declared.kind.Kind.TheVariants.{Media}
use Rattle.fg_playout.specs.declared.reply.Reply.{Reply}
use Rattle.fg_playout.specs.State.{State}
use Rattle.fg_playout.specs.Admission.{AdmitsMedia, AdmitsParity}
use Rattle.fg_playout.specs.Run.{Arrival, carries, protects, refused, time_of, ArePlaysHeld, ArePlaysBefore, by_flush, by_due, TakesThen}
use Rattle.fg_playout.specs.Laws.{HavePlayedBefore, still_held, then_played, FreshIsDecided}
use Rattle.fg_playout.specs.PlayedOn.{PlayOn, held_on, before_on, taken_then_on}
use Rattle.fg_playout.specs.DesksJoin.{played_before_on, played_then_on}
use Rattle.fg_results.proofs.FlowRecords.{as_parity}
use Rattle.fg_results.specs.Flow.{IsReadAs, parity_of}
use Rattle.fg_prove.specs.Steps.{HaveTold, HavePart, Tells, Breaks, HaveHeld, have_held_on, AdmitsDatagram, AdmitsThen, BreaksAtDatagram, BreaksThen}
use Rattle.fg_prove.proofs.Telling.{told_none, told_more, part_more, no_part}

-- How a parity datagram is read

-- A datagram on a parity port that was read so, and does so.
abbrev ParityTakes : State → Kind → ℕ → List ℕ → State → Type 0
ParityTakes old kind time bytes new =
    (arrival : Arrival) × (time_of arrival ≡ time) × IsReadAs kind bytes arrival
    × ((reply : Option Reply) × TakesThen old arrival [] reply new)

pub refused_takes :
    (old new : State) (bytes : List ℕ) → new ≡ old → ((parity : ParityRead) → ¬ IsParityDatagram bytes parity)
    → (kind : Kind) (time : ℕ) → kind ≢ Media → ParityTakes old kind time bytes new
refused_takes old new bytes same none kind time other =
    (refused time kind, refl, as_parity kind bytes (refused time kind) other (refl, none), (None, (refl, same)))

pub parity_takes :
    (old ready : State) (bytes : List ℕ) (parity : ParityRead) (reply : Reply) (new : State) → ready ≡ old
    → IsParityDatagram bytes parity → AdmitsParity ready (parity_of parity) reply new
    → (kind : Kind) (time : ℕ) → kind ≢ Media → ParityTakes old kind time bytes new
parity_takes old ready bytes parity reply new same is admits kind time other = (
  protects time kind (parity_of parity),
  refl,
  as_parity kind bytes (protects time kind (parity_of parity)) other (refl, (parity, is, refl)),
  (Some reply, (refl, subst (λ (s : State). AdmitsParity s (parity_of parity) reply new) same admits)),
)

-- One that plays nothing

nothing_before_on : (old : State) (seq ssrc : ℕ) (new : State) (are : ArePlaysBefore old seq ssrc [] new) → before_on old seq ssrc [] new are ≡ []
nothing_before_on old seq ssrc new (by_flush empty fresh flush counts) = refl
nothing_before_on old seq ssrc new (by_due stale due) = refl

nothing_on : (old : State) (arrival : Arrival) (reply : Option Reply) (new : State) (takes : TakesThen old arrival [] reply new) → taken_then_on old arrival [] reply new takes ≡ []
nothing_on old (carries time seq ssrc word) None new takes = refl
nothing_on old (carries time seq ssrc word) (Some reply) new takes = nothing_before_on old seq ssrc takes.0 takes.1
nothing_on old (protects time stream parity) None new takes = refl
nothing_on old (protects time stream parity) (Some reply) new takes = refl
nothing_on old (refused time stream) None new takes = refl
nothing_on old (refused time stream) (Some reply) new takes = refl

pub plays_nothing :
    (kind : Kind) (time : ℕ) (bytes : List ℕ) (port : ℕ) (old new : State) (held : List ℕ) (before : Option (List ℕ)) (reply : Option Reply)
    (arrival : Arrival) → time_of arrival ≡ time → IsReadAs kind bytes arrival → TakesThen old arrival [] reply new
    → AdmitsThen kind time bytes port old held before new held before
plays_nothing kind time bytes port old new held before reply arrival came read takes = record {
  arrival = arrival;
  came = came;
  read = read;
  plays = [];
  reply = reply;
  takes = takes;
  told = subst (λ (mades : List PlayOn). HaveTold port mades held before held before) (sym (nothing_on old arrival reply new takes)) (told_none port held before);
}

pub media_is_refused :
    (time : ℕ) (bytes : List ℕ) (port : ℕ) (old new : State) (held : List ℕ) (before : Option (List ℕ)) → new ≡ old
    → ((seq ssrc : ℕ) (word : Word) → ¬ IsMediaDatagram bytes seq ssrc word)
    → AdmitsThen Media time bytes port old held before new held before
media_is_refused time bytes port old new held before same none =
    plays_nothing Media time bytes port old new held before None (refused time Media) refl (refl, none) (refl, same)

pub media_is_admitted :
    (time : ℕ) (bytes : List ℕ) (port : ℕ) (old due new : State) (held held' : List ℕ) (before after : Option (List ℕ)) (seq ssrc : ℕ) (word : Word)
    (reply : Reply) → IsMediaDatagram bytes seq ssrc word
    → Tells (ArePlaysBefore old seq ssrc) (before_on old seq ssrc) port held before due held' after → AdmitsMedia due seq ssrc word reply new
    → AdmitsThen Media time bytes port old held before new held' after
media_is_admitted time bytes port old due new held held' before after seq ssrc word reply is so admits = record {
  arrival = carries time seq ssrc word;
  came = refl;
  read = is;
  plays = so.plays;
  reply = Some reply;
  takes = (due, so.are, admits);
  told = so.told;
}

-- A fault before any play

nothing_played : FreshIsDecided → (old : State) (seq ssrc : ℕ) → (are : HavePlayedBefore old seq ssrc [] old) × (played_before_on old seq ssrc [] old are ≡ [])
nothing_played decided old seq ssrc = ⊎_elim (λ fresh. (inl (fresh, refl), refl)) (λ stale. (inr (stale, refl), refl)) (decided old ssrc)

pub breaks_at_once :
    FreshIsDecided → (kind : Kind) (time : ℕ) (bytes : List ℕ) (port : ℕ) (old : State) (held : List ℕ) (before : Option (List ℕ))
    → BreaksThen kind time bytes port old held before before
breaks_at_once decided kind time bytes port old held before (carries time' seq ssrc word) came read =
    let none = nothing_played decided old seq ssrc in
    record {
      plays = [];
      now = old;
      are = none.0;
      part = subst (λ (mades : List PlayOn). HavePart port mades held before before) (sym none.1) (no_part port held before);
    }
breaks_at_once decided kind time bytes port old held before (protects time' stream parity) came read =
    record { plays = []; now = old; are = (refl, refl); part = no_part port held before }
breaks_at_once decided kind time bytes port old held before (refused time' stream) came read =
    record { plays = []; now = old; are = (refl, refl); part = no_part port held before }

-- A fault while what comes before a media datagram is played

pub media_breaks_off :
    ReadsOneWay → (time : ℕ) (bytes : List ℕ) (port : ℕ) (old : State) (held : List ℕ) (before after : Option (List ℕ)) (seq ssrc : ℕ) (word : Word)
    → IsMediaDatagram bytes seq ssrc word
    → Breaks (HavePlayedBefore old seq ssrc) (played_before_on old seq ssrc) port held before after
    → BreaksThen Media time bytes port old held before after
media_breaks_off one time bytes port old held before after seq ssrc word is off (carries time' seq' ssrc' word') came read =
    let same = one bytes seq ssrc seq' ssrc' word word' is read in
    let at = subst (λ (n : ℕ). Breaks (HavePlayedBefore old n ssrc') (played_before_on old n ssrc') port held before after) same.0
    (subst (λ (n : ℕ). Breaks (HavePlayedBefore old seq n) (played_before_on old seq n) port held before after) same.1 off) in
    record { plays = at.plays; now = at.now; are = at.are; part = at.part }
media_breaks_off one time bytes port old held before after seq ssrc word is off (protects time' stream parity) came read = absurd read
media_breaks_off one time bytes port old held before after seq ssrc word is off (refused time' stream) came read = absurd (read.1 seq ssrc word is)

-- What comes before

-- A datagram that is taken where its held plays are made, is taken.
pub admitted_whole :
    (kind : Kind) (time : ℕ) (bytes : List ℕ) (port : ℕ) (old ready new : State) (held between held' : List ℕ) (before middle after : Option (List ℕ))
    → Tells (ArePlaysHeld old time) (held_on old time) port held before ready between middle
    → ((t : ℕ) → AdmitsThen kind t bytes port ready between middle new held' after)
    → AdmitsDatagram kind time bytes port old held before new held' after
admitted_whole kind time bytes port old ready new held between held' before middle after so admits =
    let a = admits time in
    let at = subst (λ (t : ℕ). Tells (ArePlaysHeld old t) (held_on old t) port held before ready between middle) (sym a.came) so in
    record {
      arrival = a.arrival;
      came = a.came;
      read = a.read;
      plays = at.plays ++ a.plays;
      reply = a.reply;
      takes = record { held = at.plays; after = a.plays; ready = ready; plays_are = refl; holds = at.are; takes = a.takes };
      told = told_more port (held_on old (time_of a.arrival) at.plays ready at.are) (taken_then_on ready a.arrival a.plays a.reply new a.takes)
          held between held' before middle after at.told a.told;
    }

-- And a fault that comes so, comes while it is taken.
pub held_breaks_off :
    (kind : Kind) (time : ℕ) (bytes : List ℕ) (port : ℕ) (old : State) (held : List ℕ) (before after : Option (List ℕ))
    → Breaks (HaveHeld old time) (have_held_on old time) port held before after → BreaksAtDatagram kind time bytes port old held before after
held_breaks_off kind time bytes port old held before after off arrival came read =
    let at = subst (λ (t : ℕ). Breaks (HaveHeld old t) (have_held_on old t) port held before after) (sym came) off in
    record { plays = at.plays; now = at.now; are = still_held at.are.0 at.are.1; part = at.part }

pub then_breaks_off :
    (kind : Kind) (time : ℕ) (bytes : List ℕ) (port : ℕ) (old ready : State) (held between : List ℕ) (before middle after : Option (List ℕ))
    → Tells (ArePlaysHeld old time) (held_on old time) port held before ready between middle
    → ((t : ℕ) → BreaksThen kind t bytes port ready between middle after)
    → BreaksAtDatagram kind time bytes port old held before after
then_breaks_off kind time bytes port old ready held between before middle after so breaks arrival came read =
    let at = subst (λ (t : ℕ). Tells (ArePlaysHeld old t) (held_on old t) port held before ready between middle) (sym came) so in
    let off = breaks time arrival came read in
    record {
      plays = at.plays ++ off.plays;
      now = off.now;
      are = then_played at.plays off.plays ready at.are refl off.are;
      part = part_more port (held_on old (time_of arrival) at.plays ready at.are) (played_then_on ready arrival off.plays off.now off.are)
          held between before middle after at.told off.part;
    }
