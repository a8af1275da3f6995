-- What comes back of a thinned encoding.
use Rattle.std.proofs.Common.{◌≡◌, ℕ, zero, suc, ◌+◌, ◌-◌, ◌<◌, ◌≤◌, Bool, true, false, cond, List, [], ◌∷◌, ◌++◌, length, replicate, get_or, Option, Some, None, refl, sym, ap, subst, ⊎_elim, ◌∙◌, ◌^◌, arith, lit<}
use Rattle.std.specs.List.{All, AllZip, count_by, flat_map, range_with_len}
use Rattle.std.specs.Option.{is_some}
use Rattle.std.proofs.lemmas.Bool.{cases_lt}
use Rattle.std.proofs.lemmas.Nat.{mod_below}
use Rattle.std.proofs.lemmas.List.{get_or_past, take-append-le, take_all}
use Rattle.std.proofs.lemmas.List.Elements.{All-head, All-tail}
use Rattle.std.proofs.lemmas.List.Sums.{sum_by-cons}
use Rattle.fg_shape.specs.Playout.{Playout}
use Rattle.fg_words.specs.declared.Word.{Word}
use Rattle.fg_shape.specs.declared.encoding.Settings.{Settings}
use Rattle.fg_rtp.specs.MediaDatagram.{payload_of}
use Rattle.fg_playout.specs.declared.reply.Outcome.{Outcome}
use Rattle.fg_playout.specs.declared.reply.Outcome.TheVariants.{Repaired}
use Rattle.fg_playout.specs.Play.{Play, Shown, nothing_shown}
use Rattle.fg_playout.specs.Run.{Arrival}
use Rattle.fg_encode.specs.Encoding.{payload_at, word_at}
use Rattle.fg_report.specs.declared.flow_sum.FlowSum.{FlowSum}
use Rattle.fg_results.specs.Flow.{Arrives, FlowResult, IsFlowResult, all_shown, is_inconsistent, lane_of, records_of, shown_payload}
use Rattle.fg_drill.specs.ComesBack.{CanComeBack, stream_of}
use Rattle.fg_drill.specs.Repaired.{ArrivalsPeel, Peels, is_shown, stream_shown}
use Rattle.fg_drill.specs.Sent.{ArriveOneWay, FewArrive, SentRecordsAreTrue, SentWordsAreMedia, source_sent, words_sent}
use Rattle.fg_thin.specs.Thinned.{thinned}
use Rattle.fg_drill.specs.True.{AreSentTrue}
use Rattle.fg_drill.specs.TrueLaws.{PeeledSlotsAreShown, TrueRunsAreRepaired, TrueRunsShowTheTruth}
use Rattle.fg_drill.proofs.Truth.{word_below}

-- Counts

pub none_inconsistent : (plays : List Play) → All (λ play. play.outcome ≡ Repaired) plays → count_by is_inconsistent plays ≡ 0
none_inconsistent [] repaired = refl
none_inconsistent (play ∷ plays) repaired =
    let outcome = All-head (λ (play : Play). play.outcome ≡ Repaired) play plays repaired in
    let here : is_inconsistent play ≡ false = ap (λ (o : Outcome). is_inconsistent (record play { outcome = o })) outcome in
    let number : Bool → ℕ = λ b. cond b 1 0 in
    let one : number (is_inconsistent play) ≡ 0 = ap number here in
    let rest = none_inconsistent plays (All-tail (λ (play : Play). play.outcome ≡ Repaired) play plays repaired) in
    omega (arith, sum_by-cons {X = Play} (λ play. cond (is_inconsistent play) 1 0) play plays, one, rest)

-- Pieces joined

joined_by_place :
    {A : Type 0} (f : A → List ℕ) (g : ℕ → List ℕ) (xs : List A) (d : A) (a : ℕ)
    → ((i : ℕ) → i < length xs → f (get_or xs i d) ≡ g (a + i)) → flat_map f xs ≡ flat_map g (range_with_len a (length xs))
joined_by_place f g [] d a each = refl
joined_by_place f g (x ∷ xs) d a each =
    let start : a + 0 ≡ a = omega arith in
    let first : f x ≡ g a = each 0 (omega arith) ∙ ap g start in
    let rest = joined_by_place f g xs d (a + 1) (λ i below.
    let step : a + suc i ≡ (a + 1) + i = omega arith in
    each (suc i) (omega arith) ∙ ap g step) in
    λ i. first i ++ rest i

nothing_joined : (g : ℕ → List ℕ) (a n : ℕ) → ((i : ℕ) → a ≤ i → g i ≡ []) → flat_map g (range_with_len a n) ≡ []
nothing_joined g a zero none = refl
nothing_joined g a (suc n) none =
    ap (λ (xs : List ℕ). xs ++ flat_map g (range_with_len (a + 1) n)) (none a (omega arith))
    ∙ nothing_joined g (a + 1) n (λ i past. none i (omega arith))

nothing_after :
    (g : ℕ → List ℕ) (a n m : ℕ) → n ≤ m → ((i : ℕ) → a + n ≤ i → g i ≡ [])
    → flat_map g (range_with_len a m) ≡ flat_map g (range_with_len a n)
nothing_after g a zero m more none = nothing_joined g a m (λ i past. none i (omega arith))
nothing_after g a (suc n) zero more none = absurd (omega arith)
nothing_after g a (suc n) (suc m) more none =
    ap (λ (xs : List ℕ). g a ++ xs) (nothing_after g (a + 1) n m (omega arith) (λ i past. none i (omega arith)))

same_reach :
    (g : ℕ → List ℕ) (m n : ℕ) → ((i : ℕ) → m ≤ i → g i ≡ []) → ((i : ℕ) → n ≤ i → g i ≡ [])
    → flat_map g (range_with_len 0 m) ≡ flat_map g (range_with_len 0 n)
same_reach g m n none none' = ⊎_elim
    (λ (less : m < n). sym (nothing_after g 0 m n (omega arith) (λ i past. none i (omega arith))))
    (λ (more : n ≤ m). nothing_after g 0 n m more (λ i past. none' i (omega arith)))
    (cases_lt m n)

-- What a position shows

one_payload :
    (o : Option Word) (repaired : Bool) (payload : List ℕ) → ((word : Word) → o ≡ Some word → payload_of word ≡ payload)
    → shown_payload (record { word = o; repaired = repaired }) ≡ cond (is_some o) payload []
one_payload None repaired payload is = refl
one_payload (Some word) repaired payload is = is word refl

either_nothing : (b : Bool) → cond {A = List ℕ} b [] [] ≡ []
either_nothing true = refl
either_nothing false = refl

payload_of_word : (settings : Settings) (payloads : List (List ℕ)) (slot : ℕ) → payload_of (word_at settings payloads slot) ≡ payload_at payloads slot
payload_of_word settings payloads slot =
    let payload : List ℕ = payload_at payloads slot in
    take-append-le (length payload) payload (replicate (1316 - length payload) 0) (omega arith) ∙ take_all (length payload) payload (omega arith)

module _ (settings : Settings) (payloads : List (List ℕ)) (plays : List Play)
    (true_words : (slot : ℕ) (word : Word) → (get_or (all_shown plays) slot nothing_shown).word ≡ Some word → words_sent settings payloads slot ≡ Some word) where
  -- The lane of plays that show true words is the stream without the slots that they don't show.
  pub lane_is_shown : lane_of plays ≡ stream_shown payloads plays
  lane_is_shown =
      let shown : List Shown = all_shown plays in
      let g : ℕ → List ℕ = λ slot. cond (is_shown plays slot) (payload_at payloads slot) [] in
      joined_by_place shown_payload g shown nothing_shown 0 (λ slot below.
      let at : Shown = get_or shown slot nothing_shown in
      let start : slot ≡ 0 + slot = omega arith in
      one_payload at.word at.repaired (payload_at payloads slot) (λ word is.
      let same = (word_below settings payloads slot word (true_words slot word is)).1 in
      ap payload_of same ∙ payload_of_word settings payloads slot)
      ∙ ap g start)
      ∙ same_reach g (length shown) (length payloads)
      (λ slot past.
      ap (λ (s : Shown). cond (is_some s.word) (payload_at payloads slot) []) (get_or_past shown slot nothing_shown past))
      (λ slot past.
      ap (λ (p : List ℕ). cond (is_shown plays slot) p []) (get_or_past payloads slot [] past) ∙ either_nothing (is_shown plays slot))

-- Where they show all slots, it is the whole stream.
pub all_is_shown : (payloads : List (List ℕ)) (plays : List Play) → ((slot : ℕ) → slot < length payloads → is_shown plays slot ≡ true)
    → stream_shown payloads plays ≡ stream_of payloads
all_is_shown payloads plays all =
    let g : ℕ → List ℕ = λ slot. cond (is_shown plays slot) (payload_at payloads slot) [] in
    sym (joined_by_place (λ (p : List ℕ). p) g payloads [] 0 (λ slot below.
    let start : slot ≡ 0 + slot = omega arith in
    sym (ap (λ (b : Bool). cond b (payload_at payloads slot) []) (all slot below)) ∙ ap g start))

module _
    (playout : Playout) (settings : Settings) (payloads : List (List ℕ)) (lost : ℕ → Bool) (can : CanComeBack playout settings payloads lost)
    (media : SentWordsAreMedia) (records : SentRecordsAreTrue) (few : FewArrive) where
  pub sent_true :
      (arrivals : List Arrival) → AllZip (Arrives settings.port) (records_of settings.port (thinned settings lost payloads)) arrivals
      → AreSentTrue playout settings.seq (source_sent settings) (words_sent settings payloads) arrivals
  sent_true arrivals arrive =
      let count = few settings payloads lost arrivals can.can can.whole arrive in
      let limit = can.limit in
      record {
        fits = can.fits;
        source = mod_below settings.ssrc (2 ^ 32) (lit< tt);
        media = media settings payloads can.can can.whole;
        arrive = records settings payloads lost arrivals can.can can.whole can.few arrive;
        few = omega arith;
      }

  module _ (result : FlowResult) (is : IsFlowResult playout (thinned settings lost payloads) settings.port result) where
    pub nothing_inconsistent : TrueRunsAreRepaired → result.sum.inconsistent ≡ 0
    nothing_inconsistent law =
        ap (λ (sum : FlowSum). sum.inconsistent) is.sum
        ∙ none_inconsistent is.plays (law playout settings.seq (source_sent settings) (words_sent settings payloads) is.arrivals is.plays is.replies (sent_true is.arrivals is.arrive) is.run)

    pub what_is_shown : TrueRunsShowTheTruth → result.lane ≡ stream_shown payloads is.plays
    what_is_shown law =
        is.lane
        ∙ lane_is_shown settings payloads is.plays
        (law playout settings.seq (source_sent settings) (words_sent settings payloads) is.arrivals is.plays is.replies (sent_true is.arrivals is.arrive) is.run)

    pub all_comes_back :
        TrueRunsShowTheTruth → PeeledSlotsAreShown → ArriveOneWay
        → Peels playout settings.port (thinned settings lost payloads) (length payloads) → result.lane ≡ stream_of payloads
    all_comes_back truth law one_way peels =
        let same : peels.0 ≡ is.arrivals = one_way settings.port (thinned settings lost payloads) peels.0 is.arrivals peels.1 is.arrive in
        let peel : ArrivalsPeel playout is.arrivals (length payloads) = subst (λ (arrivals : List Arrival). ArrivalsPeel playout arrivals (length payloads)) same peels.2 in
        what_is_shown truth
        ∙ all_is_shown payloads is.plays
        (law playout settings.seq (source_sent settings) (length payloads) (words_sent settings payloads) is.arrivals is.plays is.replies (sent_true is.arrivals is.arrive) is.run peel)
