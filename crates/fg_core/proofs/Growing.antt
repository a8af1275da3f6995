-- What the passes' events leave of what was told, and what their answers tell.
use Rattle.std.proofs.Common.{◌≡◌, ◌⊎◌, ℕ, Bool, true, false, List, [], ◌∷◌, map, Option, Some, None, inl, inr, refl, sym, ap, subst, ◌∙◌, arith, le_refl}
use Rattle.std.proofs.lemmas.Option.{none-some, same_Some}
use Rattle.std.proofs.lemmas.List.Elements.{All-nil, All-cons, All-map, All-same, All-weaker, All-contains, All-contains_itself}
use Rattle.std.specs.List.{All, Contains}
use Rattle.std.specs.FinMap.{get, entries}
use Rattle.std.specs.FinSet.{empty}
use Rattle.fg_words.specs.declared.Word.{Word}
use Rattle.fg_peel.specs.Equation.{Equation}
use Rattle.fg_peel.proofs.Options.{has_value}
use Rattle.fg_peel.proofs.Maps.{get_of_entry}
use Rattle.fg_playout.specs.State.{Live}
use Rattle.fg_playout.specs.Facts.{Holds}
use Rattle.fg_desk.specs.Contents.{Contents, known_in, filled}
use Rattle.fg_core.specs.Board.{BoardState, JobState, IsLive, IsHeld, IsJobOf, Takes, Offers, Publishes, Attests, Vouches, GivesBack, Looks, mark_of, with_word, with_back}
use Rattle.fg_core.specs.Views.{Told, saw, word_at, equation_is, IsBorneOut, seen_of, told_of_job}
use Rattle.fg_core.specs.Core.{Event, take, publish, vouch, give_back, look, offer, attest, IsEvent, Tells, TellsOfLook, told_of_fate}
use Rattle.fg_core.specs.Laws.{EventsKeepTold, AnswersHold, ToldWordsAreFound, WordsOfEquationsAreFound}
use Rattle.fg_core.specs.declared.key.Key.{Key}
use Rattle.fg_core.specs.declared.fate.Fate.{Fate}
use Rattle.fg_core.specs.declared.fate.Fate.TheVariants.{Done, Beaten, Gone}
use Rattle.fg_core.specs.declared.fate.Look.{Look}
use Rattle.fg_core.specs.declared.fate.Look.TheVariants as looked
use Rattle.fg_core.proofs.Filled.{filled_is_known, filled_keeps}
use Rattle.fg_core.proofs.Told.{told_in_equation}

-- A word came for a position where none was known.
record IsFilled (old new : Contents) : Type 0 where
  slot : ℕ
  word : Word
  unknown : known_in old slot ≡ None
  desk : new ≡ filled old slot word

-- An event leaves the desk as it was, or fills in a word.
abbrev Leaves : BoardState → BoardState → Type 0
Leaves old new = (new.desk ≡ old.desk) ⊎ IsFilled old.desk new.desk

module _ (old : BoardState) where
  -- That is so of each event, whose names these have.
  same_leaves : (new : BoardState) → new ≡ old → Leaves old new
  same_leaves new same = inl (ap (λ (b : BoardState). b.desk) same)

  word_leaves :
      (slot : ℕ) (word : Word) (new : BoardState) → known_in old.desk slot ≡ None → new.desk ≡ filled old.desk slot word
      → Leaves old new
  word_leaves slot word new unknown same = inr (record { slot = slot; word = word; unknown = unknown; desk = same })

  take_leaves : (job : Option JobState) (new : BoardState) → Takes old job new → Leaves old new
  take_leaves None new takes = same_leaves new takes.1
  take_leaves (Some job) new takes = inl (ap (λ (b : BoardState). b.desk) takes.2)

  offer_leaves : (key : Key) (slot : ℕ) (word : Word) (fate : Fate) (new : BoardState) → Offers old key slot word fate new → Leaves old new
  offer_leaves key slot word (Gone mark epoch) new gone = same_leaves new gone.same
  offer_leaves key slot word (Beaten other) new beaten = same_leaves new beaten.3
  offer_leaves key slot word Done new done = word_leaves slot word new done.1 (ap (λ (b : BoardState). b.desk) done.2)

  back_leaves : (offered : BoardState) (serial : ℕ) (new : BoardState) → Leaves old offered → new ≡ with_back offered serial → Leaves old new
  back_leaves offered serial new leaves same =
      subst (λ (b : BoardState). Leaves old b) (sym same) leaves

  publish_leaves : (key : Key) (slot : ℕ) (word : Word) (fate : Fate) (new : BoardState) → Publishes old key slot word fate new → Leaves old new
  publish_leaves key slot word (Gone mark epoch) new gone = same_leaves new gone.same
  publish_leaves key slot word (Beaten other) new p =
      back_leaves p.0 key.serial new (offer_leaves key slot word (Beaten other) p.0 p.1) p.2
  publish_leaves key slot word Done new p = back_leaves p.0 key.serial new (offer_leaves key slot word Done p.0 p.1) p.2

  attest_leaves : (key : Key) (comes : Bool) (fate : Fate) (new : BoardState) → Attests old key comes fate new → Leaves old new
  attest_leaves key comes (Gone mark epoch) new gone = same_leaves new gone.same
  attest_leaves key comes (Beaten other) new never = absurd never
  attest_leaves key true Done new done = inl (ap (λ (b : BoardState). b.desk) done.1)
  attest_leaves key false Done new done = same_leaves new done.1

  vouch_leaves : (key : Key) (comes : Bool) (fate : Fate) (new : BoardState) → Vouches old key comes fate new → Leaves old new
  vouch_leaves key comes (Gone mark epoch) new gone = same_leaves new gone.same
  vouch_leaves key comes (Beaten other) new never = absurd never
  vouch_leaves key true Done new done = inl (ap (λ (b : BoardState). b.desk) done.1)
  vouch_leaves key false Done new done = same_leaves new done.1

  give_back_leaves : (key : Key) (fate : Fate) (new : BoardState) → GivesBack old key fate new → Leaves old new
  give_back_leaves key (Gone mark epoch) new gone = same_leaves new gone.same
  give_back_leaves key (Beaten other) new never = absurd never
  give_back_leaves key Done new done = inl (ap (λ (b : BoardState). b.desk) done.1)

  look_leaves : (key : Key) (slot : Option ℕ) (answer : Look) (new : BoardState) → Looks old key slot answer new → Leaves old new
  look_leaves key slot (looked.Gone mark epoch) new gone = same_leaves new gone.same
  look_leaves key None looked.Unknown new told = same_leaves new told.1
  look_leaves key (Some slot) looked.Unknown new unknown = same_leaves new unknown.2
  look_leaves key None (looked.Known word) new never = absurd never
  look_leaves key (Some slot) (looked.Known word) new known = same_leaves new known.2

  -- So it is of all.
  event_leaves : (event : Event) (new : BoardState) → IsEvent old event new → Leaves old new
  event_leaves (take job) new does = take_leaves job new does
  event_leaves (publish key slot word fate) new does = publish_leaves key slot word fate new does
  event_leaves (vouch key comes fate) new does = vouch_leaves key comes fate new does
  event_leaves (give_back key fate) new does = give_back_leaves key fate new does
  event_leaves (look key slot answer) new does = look_leaves key slot answer new does
  event_leaves (offer key slot word fate) new does = offer_leaves key slot word fate new does
  event_leaves (attest key comes fate) new does = attest_leaves key comes fate new does

-- What one was told holds by the desk alone.
abbrev HoldsOn : Told → Contents → Type 0
HoldsOn told desk = IsBorneOut (record { desk = desk; vouched = empty; handed_out = empty }) told

-- It holds still where one more word is known.
holds_filled :
    (desk : Contents) (slot : ℕ) (word : Word) → known_in desk slot ≡ None → (told : Told) → HoldsOn told desk
    → HoldsOn told (filled desk slot word)
holds_filled desk slot word unknown (saw mark epoch admitted) holds = holds
holds_filled desk slot word unknown (word_at epoch at other) holds =
    (holds.0, λ now near. filled_keeps desk slot word unknown at other (holds.1 now near))
holds_filled desk slot word unknown (equation_is serial equation) holds = holds

-- So what one was told holds after an event.
keeps_told : (old new : BoardState) → Leaves old new → (told : Told) → HoldsOn told old.desk → HoldsOn told new.desk
keeps_told old new (inl same) told holds = subst (λ (desk : Contents). HoldsOn told desk) (sym same) holds
keeps_told old new (inr more) told holds =
    subst (λ (desk : Contents). HoldsOn told desk) (sym more.desk)
    (holds_filled old.desk more.slot more.word more.unknown told holds)

pub events_keep_told : EventsKeepTold
events_keep_told playout calls event old new told others owned grows can does holds =
    All-weaker (IsBorneOut old) (IsBorneOut new) (keeps_told old new (event_leaves old event new does)) others holds

-- What the answers tell

-- The three numbers of a board hold of it.
pub seen_holds : (board : BoardState) → IsBorneOut board (seen_of board)
seen_holds board = (le_refl (mark_of board), le_refl board.desk.epoch, le_refl board.desk.state.admitted)

module _ (board : BoardState) (facts : Holds board.desk.state) where
  -- A live equation is that of its serial number.
  live_holds : (serial : ℕ) (live : Live) → IsLive board serial live → IsBorneOut board (equation_is serial live.equation)
  live_holds serial live is = (
    (facts.live serial live is).numbered,
    λ other is'. ap (λ (l : Live). l.equation) (same_Some other live (sym is' ∙ is)),
  )

  -- A word that is known now is told rightly.
  known_holds : (epoch slot : ℕ) (word : Word) → epoch ≡ board.desk.epoch → known_in board.desk slot ≡ Some word
      → IsBorneOut board (word_at epoch slot word)
  known_holds epoch slot word now is = (omega (arith, now), λ _ _. is)

  -- What a job tells holds.
  job_holds : (job : JobState) (live : Live) → IsJobOf board live job → All (IsBorneOut board) (told_of_job job)
  job_holds job live is = All-cons (IsBorneOut board) (equation_is job.key.serial job.equation)
      (map (λ entry. word_at job.key.epoch entry.0 entry.1) (entries job.inputs))
      (subst (λ (e : Equation). IsBorneOut board (equation_is job.key.serial e)) (sym is.equation_is)
      (live_holds job.key.serial live is.current.live_is))
      (All-map (IsBorneOut board) (λ (entry : ℕ × Word). word_at job.key.epoch entry.0 entry.1) (entries job.inputs)
      (All-weaker (Contains (entries job.inputs)) (λ (entry : ℕ × Word). IsBorneOut board (word_at job.key.epoch entry.0 entry.1))
      (λ entry c.
      let there = get_of_entry job.inputs entry c in
      let slot = is.only entry.0 (has_value (get job.inputs entry.0) entry.1 there) in
      known_holds job.key.epoch entry.0 entry.1 is.current.epoch_is (sym (is.inputs_are entry.0 slot) ∙ there))
      (entries job.inputs) (All-contains_itself (entries job.inputs))))

-- What holds is told: nothing, one thing, two things.

nothing_told : (board : BoardState) (told : List Told) → told ≡ [] → All (IsBorneOut board) told
nothing_told board told none = All-same (IsBorneOut board) told [] none (All-nil (IsBorneOut board))

one_told : (board : BoardState) (one : Told) (told : List Told) → IsBorneOut board one → told ≡ one ∷ [] → All (IsBorneOut board) told
one_told board one told holds same =
    All-same (IsBorneOut board) told (one ∷ []) same (All-cons (IsBorneOut board) one [] holds (All-nil (IsBorneOut board)))

two_told :
    (board : BoardState) (one other : Told) (told : List Told) → IsBorneOut board one → IsBorneOut board other
    → told ≡ one ∷ other ∷ [] → All (IsBorneOut board) told
two_told board one other told holds holds' same =
    All-same (IsBorneOut board) told (one ∷ other ∷ []) same
    (All-cons (IsBorneOut board) one (other ∷ []) holds (one_told board other (other ∷ []) holds' refl))

module _ (old : BoardState) (facts : Holds old.desk.state) (told : List Told) where
  -- What each event's answer tells holds afterwards. These have the events' names.
  take_tells : (job : Option JobState) (new : BoardState) → Takes old job new → Tells new (take job) told → All (IsBorneOut new) told
  take_tells None new takes tells = nothing_told new told tells
  take_tells (Some job) new takes tells =
      All-same (IsBorneOut new) told (told_of_job job) tells
      (subst (λ (b : BoardState). All (IsBorneOut b) (told_of_job job)) (sym takes.2)
      (job_holds old facts job takes.0.0 takes.0.2))

  -- A word that was taken is known.
  word_tells :
      (key : Key) (slot : ℕ) (word : Word) (new : BoardState) → IsHeld old key → known_in old.desk slot ≡ None
      → new.desk ≡ filled old.desk slot word → told ≡ word_at key.epoch slot word ∷ [] → All (IsBorneOut new) told
  word_tells key slot word new held unknown filling tells =
      one_told new (word_at key.epoch slot word) told
      (subst (λ (desk : Contents). HoldsOn (word_at key.epoch slot word) desk) (sym filling)
      (known_holds (with_word old slot word) facts key.epoch slot word held.1.epoch_is
      (filled_is_known old.desk slot word unknown))) tells

  offer_tells :
      (key : Key) (slot : ℕ) (word : Word) (fate : Fate) (new : BoardState) → Offers old key slot word fate new
      → told ≡ told_of_fate key slot word fate → All (IsBorneOut new) told
  offer_tells key slot word (Gone mark epoch) new gone tells = nothing_told new told tells
  offer_tells key slot word (Beaten other) new beaten tells = nothing_told new told tells
  offer_tells key slot word Done new done tells =
      word_tells key slot word new done.0 done.1 (ap (λ (b : BoardState). b.desk) done.2) tells

  publish_tells :
      (key : Key) (slot : ℕ) (word : Word) (fate : Fate) (new : BoardState) → Publishes old key slot word fate new
      → told ≡ told_of_fate key slot word fate → All (IsBorneOut new) told
  publish_tells key slot word (Gone mark epoch) new gone tells = nothing_told new told tells
  publish_tells key slot word (Beaten other) new p tells = nothing_told new told tells
  publish_tells key slot word Done new p tells =
      word_tells key slot word new p.1.0 p.1.1 (ap (λ (b : BoardState). b.desk) p.2 ∙ ap (λ (b : BoardState). b.desk) p.1.2) tells

  -- The key's equation alone.
  equation_tells :
      (key : Key) (new : BoardState) → new ≡ old
      → (live : Live) × IsLive new key.serial live × (told ≡ equation_is key.serial live.equation ∷ [])
      → All (IsBorneOut new) told
  equation_tells key new same tells =
      one_told new (equation_is key.serial tells.0.equation) told
      (live_holds new (subst (λ (b : BoardState). Holds b.desk.state) (sym same) facts) key.serial tells.0 tells.1)
      tells.2

  look_tells :
      (key : Key) (slot : Option ℕ) (answer : Look) (new : BoardState) → Looks old key slot answer new
      → TellsOfLook new key slot answer told → All (IsBorneOut new) told
  look_tells key slot (looked.Gone mark epoch) new gone tells = nothing_told new told tells
  look_tells key None looked.Unknown new same tells = equation_tells key new same.1 tells
  look_tells key (Some slot) looked.Unknown new unknown tells = equation_tells key new unknown.2 tells
  look_tells key None (looked.Known word) new never tells = absurd never
  look_tells key (Some slot) (looked.Known word) new known tells =
      two_told new (equation_is key.serial tells.0.equation) (word_at key.epoch slot word) told
      (live_holds new (subst (λ (b : BoardState). Holds b.desk.state) (sym known.2) facts) key.serial tells.0 tells.1)
      (subst (λ (b : BoardState). IsBorneOut b (word_at key.epoch slot word)) (sym known.2)
      (known_holds old facts key.epoch slot word known.0.1.epoch_is known.1))
      tells.2

  -- So what any answer tells does.
  event_tells : (event : Event) (new : BoardState) → IsEvent old event new → Tells new event told → All (IsBorneOut new) told
  event_tells (take job) new does tells = take_tells job new does tells
  event_tells (publish key slot word fate) new does tells = publish_tells key slot word fate new does tells
  event_tells (vouch key comes fate) new does tells = nothing_told new told tells
  event_tells (give_back key fate) new does tells = nothing_told new told tells
  event_tells (look key slot answer) new does tells = look_tells key slot answer new does tells
  event_tells (offer key slot word fate) new does tells = offer_tells key slot word fate new does tells
  event_tells (attest key comes fate) new does tells = nothing_told new told tells

pub answers_hold : AnswersHold
answers_hold playout calls event old new told owned does tells =
    All-cons (IsBorneOut new) (seen_of new) told (seen_holds new) (event_tells old owned.facts told event new does tells)

-- Who was told a word of a slot near the mark finds it there.
found_there :
    (board : BoardState) (key : Key) (slot : ℕ) (word : Word) (answer : Look) (new : BoardState)
    → known_in board.desk slot ≡ Some word → IsHeld board key → Looks board key (Some slot) answer new
    → answer ≡ looked.Known word
found_there board key slot word (looked.Gone mark epoch) new is held gone = absurd (gone.gone held.0 held.1)
found_there board key slot word looked.Unknown new is held unknown = absurd (none-some word (sym unknown.1 ∙ is))
found_there board key slot word (looked.Known other) new is held known =
    ap looked.Known (same_Some other word (sym known.1 ∙ is))

pub told_words_are_found : ToldWordsAreFound
told_words_are_found playout calls board new told key slot word answer owned grows c near looks held =
    found_there board key slot word answer new
    ((All-contains (IsBorneOut board) told (word_at key.epoch slot word) grows c).1 held.1.epoch_is near) held looks

pub words_of_equations_are_found : WordsOfEquationsAreFound
words_of_equations_are_found playout calls board new told key equation slot word answer owned grows listed at c looks held =
    found_there board key slot word answer new
    (told_in_equation board owned.facts told grows key held.0 held.1 equation listed slot at word c) held looks
