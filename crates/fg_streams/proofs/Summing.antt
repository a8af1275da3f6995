-- What a stream keeps, as it is taken.
use Rattle.std.proofs.Common.{◌≡◌, ℕ, suc, ◌+◌, ◌*◌, ◌/◌, ◌<◌, ◌≤◌, ◌^◌, Bool, false, ◌||◌, cond, Option, Some, None, IfSome, List, [], ◌∷◌, length, get_or, map, refl, sym, ap, ◌∙◌, subst, arith}
use Rattle.std.specs.List.{count_by, range_with_len}
use Rattle.std.proofs.lemmas.List.{ext_get_or}
use Rattle.std.proofs.lemmas.List.FromFn.{get_or-map-range_with_len, length-map-range_with_len}
use Rattle.std.proofs.lemmas.List.Sums.{count_by-le-length, sum_by-cons}
use Rattle.fg_streams.specs.declared.fates.Counts.{Counts}
use Rattle.fg_streams.specs.declared.span.Span.{Span}
use Rattle.fg_streams.specs.Arrival.{Arrival, span_of}
use Rattle.fg_streams.specs.Bursts.{times_in, times_of}
use Rattle.fg_streams.specs.Fates.{counts_of, fates_of, is_duplicate, is_jump, is_late, is_received, is_reordered}
use Rattle.fg_streams.specs.Packets.{carries, has_pid, pid_limit, pids_of}
use Rattle.fg_streams.specs.Steps.{AreMarks, CountsHaveRoom}
use Rattle.fg_streams.specs.Summary.{Summary}
use Rattle.fg_streams.proofs.Positions.{how_many}

many_fates : (h : List Arrival) → length (fates_of h) ≡ length h
many_fates [] = refl
many_fates (a ∷ h) = ap suc (many_fates h)

pub counts_have_room : (counts : Counts) (h : List Arrival) → counts ≡ counts_of (fates_of h) → length h < 2 ^ 40 → CountsHaveRoom counts
counts_have_room counts h is few =
    let fates = fates_of h in
    let many = many_fates h in
    subst CountsHaveRoom (sym is) (record {
      received = let least = count_by-le-length is_received fates in omega (arith, least, many, few);
      duplicate = let least = count_by-le-length is_duplicate fates in omega (arith, least, many, few);
      late = let least = count_by-le-length is_late fates in omega (arith, least, many, few);
      reordered = let least = count_by-le-length is_reordered fates in omega (arith, least, many, few);
      jumps = let least = count_by-le-length is_jump fates in omega (arith, least, many, few);
    })

pub few_times : (h : List Arrival) (span : Option Span) → span ≡ span_of h → IfSome span (λ s. s.top < 65536 * (length h + 1)) → length h < 2 ^ 40 → length (times_of h) < 2 ^ 58
few_times h None is low few = let none = ap (λ (o : Option Span). length (times_in h o)) is in omega (arith, none)
few_times h (Some s) is low few = let some = ap (λ (o : Option Span). length (times_in h o)) is in let many = how_many h s in omega (arith, some, many, low, few)

pub marked : (a : Arrival) (h : List Arrival) (marks after : List Bool) → length after ≡ length marks
    → ((p : ℕ) → p < 8192 → get_or after p false ≡ (carries a.payload p (length a.payload / 188) || get_or marks p false))
    → pid_limit ≡ 8192 → AreMarks marks (has_pid h) → AreMarks after (has_pid (a ∷ h))
marked a h marks after same each limit k = record {
  all = same ∙ k.all;
  each = λ pid below. each pid (subst (λ n. pid < n) limit below) ∙ ap (λ b. carries a.payload pid (length a.payload / 188) || b) (k.each pid below);
}

count_by_map : (f : ℕ → Bool) (xs : List ℕ) → count_by (λ mark. mark) (map f xs) ≡ count_by f xs
count_by_map f [] = refl
count_by_map f (x ∷ xs) =
    sum_by-cons (λ (b : Bool). cond b 1 0) (f x) (map f xs) ∙ ap (λ n. cond (f x) 1 0 + n) (count_by_map f xs)
    ∙ sym (sum_by-cons (λ (y : ℕ). cond (f y) 1 0) x xs)

all_marks : (h : List Arrival) (n : ℕ) (marks : List Bool) → length marks ≡ n → ((pid : ℕ) → pid < n → get_or marks pid false ≡ has_pid h pid) → marks ≡ map (has_pid h) (range_with_len 0 n)
all_marks h n marks all each =
    let long = length-map-range_with_len (has_pid h) 0 n in
    ext_get_or false marks (map (has_pid h) (range_with_len 0 n)) (all ∙ sym long)
    (λ i within. each i (omega (arith, within, all)) ∙ sym (get_or-map-range_with_len (has_pid h) 0 n i i false (omega (arith, within, all)) (omega arith)))

pub count_pids : (h : List Arrival) (marks : List Bool) → AreMarks marks (has_pid h) → count_by (λ mark. mark) marks ≡ pids_of h
count_pids h marks k = ap (λ (m : List Bool). count_by (λ mark. mark) m) (all_marks h pid_limit marks k.all k.each) ∙ count_by_map (has_pid h) (range_with_len 0 pid_limit)

-- The top stays low

pub low_more : (old new : Option Span) (n : ℕ) → (old ≡ None → IfSome new (λ s. s.top < 65536)) → IfSome old (λ o. IfSome new (λ s. s.top < o.top + 65536))
    → IfSome old (λ s. s.top < 65536 * (n + 1)) → IfSome new (λ s. s.top < 65536 * (suc n + 1))
low_more old None n first near low = tt
low_more None (Some new) n first near low = let least = first refl in omega (arith, least)
low_more (Some old) (Some new) n first near low = omega (arith, near, low)

pub far : (span : Option Span) (n : ℕ) → IfSome span (λ s. s.top < 65536 * (n + 1)) → n ≤ 2 ^ 40 → IfSome span (λ s. s.top < 2 ^ 60)
far None n low few = tt
far (Some s) n low few = omega (arith, low, few)

-- What is told

pub same_summary : (a b : Summary) → a.span ≡ b.span → a.counts ≡ b.counts → a.lengths ≡ b.lengths → a.longest ≡ b.longest → a.pace ≡ b.pace → a.pids ≡ b.pids → a ≡ b
same_summary a b span counts lengths longest pace pids =
    ap (λ x. record a { span = x }) span
    ∙ ap (λ x. record a { span = b.span; counts = x }) counts
    ∙ ap (λ x. record a { span = b.span; counts = b.counts; lengths = x }) lengths
    ∙ ap (λ x. record a { span = b.span; counts = b.counts; lengths = b.lengths; longest = x }) longest
    ∙ ap (λ x. record b { pace = x; pids = a.pids }) pace
    ∙ ap (λ x. record b { pids = x }) pids
