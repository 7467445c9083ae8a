-- The bytes of a group, from a place of a text on, and the run of a text from those of its groups.
use Rattle.std.proofs.Common.{◌≡◌, ℕ, List, Bool, true, false, ◌+◌, ◌-◌, ◌<◌, ◌≤◌}
use Rattle.std.proofs.Common.{length, drop, take, ◌++◌, get_or, take_all}
use Rattle.std.proofs.Common.{ap, ◌∙◌, sym, subst, arith, inl, inr}
use Rattle.std.specs.List.{prefix_len}
use Rattle.std.proofs.lemmas.Bool.{cases_lt}
use Rattle.std.proofs.lemmas.List.{length-drop, length-take, length-append, get_or-take, get_or-drop}
use Rattle.std.proofs.lemmas.List.{get_or_append_left, get_or-append_right}
use borrow.Rule.Slice.PartMut.{put_mid}
use Rattle.std.proofs.lemmas.List.Sums.{prefix_len_is, prefix_len_passes, prefix_len_stops, prefix_len-le-length}

pub group_is : (text group : List ℕ) (from n : ℕ) → group ≡ take n (take (length text - from) (drop from text))
    → group ≡ take n (drop from text)
group_is text group from n same = same ∙ ap (take n) (take_all _ _ (omega (arith, length-drop from text)))

pub group_fits : (text : List ℕ) (from n : ℕ) → from ≤ length text
    → n ≤ length (take (length text - from) (drop from text)) → from + n ≤ length text
group_fits text from n start enough =
    omega (arith, start, enough, length-take (length text - from) (drop from text), length-drop from text)

pub group_at : (text group : List ℕ) (from n k : ℕ) → group ≡ take n (take (length text - from) (drop from text))
    → k < n → get_or group k 0 ≡ get_or text (from + k) 0
group_at text group from n k same low =
    ap (λ s. get_or s k 0) (group_is text group from n same) ∙ get_or-take n (drop from text) k 0 low
    ∙ get_or-drop from text k 0

pub last_group : (text group : List ℕ) (n : ℕ) → group ≡ drop (length text - n) text
    → group ≡ take n (drop (length text - n) text)
last_group text group n same = same ∙ sym (take_all _ _ (omega (arith, length-drop (length text - n) text)))

-- the group of n bytes at i begins with count bytes that pass, and all before a place at or after i pass
module _ (p : ℕ → Bool) (text : List ℕ) (i n : ℕ) (room : i + n ≤ length text) (group : List ℕ)
    (same : group ≡ take n (drop i text)) (count : ℕ) (counted : count ≡ prefix_len p group) where
  long : length group ≡ n
  long = omega (arith, ap length same, length-take n (drop i text), length-drop i text, room)

  count_fits : count ≤ n
  count_fits = omega (arith, counted, long, prefix_len-le-length p group)

  byte_at : (k : ℕ) → k < n → get_or group k 0 ≡ get_or text (i + k) 0
  byte_at k low = ap (λ s. get_or s k 0) same ∙ get_or-take n (drop i text) k 0 low ∙ get_or-drop i text k 0

  module _ (reached : ℕ) (overlaps : i ≤ reached) (before : (k : ℕ) → k < reached → p (get_or text k 0) ≡ true) where
    pub passes_up_to : (k : ℕ) → k < i + count → p (get_or text k 0) ≡ true
    passes_up_to k high =
        elim (cases_lt k i) [
          | inl early ↦ before k (omega (arith, early, overlaps))
          | inr late ↦
              let back : i + (k - i) ≡ k = omega (arith, late) in
              let at = byte_at (k - i) (omega (arith, late, high, count_fits)) ∙ ap (λ j. get_or text j 0) back in
              subst (λ b. p b ≡ true) at (prefix_len_passes p group (k - i) 0 (omega (arith, late, high, counted)))
        ]

    stops : count < n → p (get_or text (i + count) 0) ≡ false
    stops inside =
        let at = ap (λ j. get_or group j 0) (sym counted) ∙ byte_at count inside in
        subst (λ b. p b ≡ false) at (prefix_len_stops p group 0 (omega (arith, counted, long, inside)))

    -- so the run ends in the group, or where the text does
    pub run_ends : (i + count < length text → count < n) → i + count ≡ prefix_len p text
    run_ends inside =
        let fits : i + count ≤ length text = omega (arith, room, count_fits) in
        sym (prefix_len_is p text (i + count) 0 fits passes_up_to (λ lt. stops (inside lt)))

-- the first and the last eight bytes of a text of 8 to 16 bytes, as one group that begins with count bytes that pass
module _ (p : ℕ → Bool) (text first last rest : List ℕ) (long : 8 ≤ length text) (short : length text ≤ 16)
    (starts : first ≡ take 8 text) (ends : last ≡ drop (length text - 8) text) (eight : length rest ≡ 8) where
  abbrev front : List ℕ
  front = take 8 (first ++ rest)

  abbrev nothing : List ℕ
  nothing = drop 8 (drop 8 (first ++ rest))

  abbrev both : List ℕ
  both = put_mid 8 8 (first ++ rest) last

  eight_first : length first ≡ 8
  eight_first = omega (arith, ap length starts, length-take 8 text, long)

  eight_last : length last ≡ 8
  eight_last = omega (arith, ap length ends, length-drop (length text - 8) text, long)

  all : length (first ++ rest) ≡ 16
  all = omega (arith, length-append first rest, eight_first, eight)

  eight_front : length front ≡ 8
  eight_front = omega (arith, length-take 8 (first ++ rest), all)

  none : length nothing ≡ 0
  none = omega (arith, length-drop 8 (drop 8 (first ++ rest)), length-drop 8 (first ++ rest), all)

  sixteen : length both ≡ 16
  sixteen =
      let sum = length-append front (last ++ nothing) in
      omega (arith, sum, eight_front, length-append last nothing, eight_last, none)

  at_first : (k : ℕ) → k < 8 → get_or both k 0 ≡ get_or text k 0
  at_first k low =
      get_or_append_left front _ 0 k (omega (arith, low, eight_front)) ∙ get_or-take 8 (first ++ rest) k 0 low
      ∙ get_or_append_left first rest 0 k (omega (arith, low, eight_first)) ∙ ap (λ l. get_or l k 0) starts
      ∙ get_or-take 8 text k 0 low

  at_last : (k : ℕ) → k < 8 → get_or both (8 + k) 0 ≡ get_or text (length text - 8 + k) 0
  at_last k low =
      let back : 8 + k - 8 ≡ k = omega arith in
      get_or-append_right front (last ++ nothing) 8 (8 + k) 0 eight_front (omega arith)
      ∙ ap (λ j. get_or (last ++ nothing) j 0) back
      ∙ get_or_append_left last _ 0 k (omega (arith, low, eight_last)) ∙ ap (λ l. get_or l k 0) ends
      ∙ get_or-drop (length text - 8) text k 0

  module _ (count : ℕ) (counted : count ≡ prefix_len p both) where
    passes_early : (k : ℕ) → k < count → k < 8 → p (get_or text k 0) ≡ true
    passes_early k low early =
        ap p (sym (at_first k early)) ∙ prefix_len_passes p both k 0 (omega (arith, low, counted))

    passes_late : (j : ℕ) → 8 + j < count → j < 8 → p (get_or text (length text - 8 + j) 0) ≡ true
    passes_late j low early =
        ap p (sym (at_last j early)) ∙ prefix_len_passes p both (8 + j) 0 (omega (arith, low, counted))

    stops_both : count < 16 → p (get_or both count 0) ≡ false
    stops_both low =
        ap (λ i. p (get_or both i 0)) counted ∙ prefix_len_stops p both 0 (omega (arith, sixteen, counted, low))

    pub run_ends_early : count < 8 → count ≡ prefix_len p text
    run_ends_early early =
        let passes : (k : ℕ) → k < count → p (get_or text k 0) ≡ true =
        λ k low. passes_early k low (omega (arith, low, early)) in
        sym (prefix_len_is p text count 0 (omega (arith, early, long)) passes
        (λ _. ap p (sym (at_first count early)) ∙ stops_both (omega (arith, early))))

    abbrev end : ℕ
    end = length text - 8 + (count - 8)

    within : count ≤ 16
    within = omega (arith, counted, sixteen, prefix_len-le-length p both)

    passes_to_end : 8 ≤ count → (k : ℕ) → k < end → p (get_or text k 0) ≡ true
    passes_to_end late k low =
        elim (cases_lt k 8) [
          | inl early ↦ passes_early k (omega (arith, early, late)) early
          | inr after ↦
              let j = k - (length text - 8) in
              let place : length text - 8 + j ≡ k = omega (arith, after, short) in
              let inside : 8 + j < count = omega (arith, low, after, short, late) in
              subst (λ i. p (get_or text i 0) ≡ true) place (passes_late j inside (omega (arith, inside, within)))
        ]

    stops_at_end : 8 ≤ count → end < length text → p (get_or text end 0) ≡ false
    stops_at_end late inside =
        let few : count - 8 < 8 = omega (arith, inside, late) in
        let place : 8 + (count - 8) ≡ count = omega (arith, late) in
        ap p (sym (at_last (count - 8) few)) ∙ ap (λ i. p (get_or both i 0)) place ∙ stops_both (omega (arith, few))

    pub run_ends_late : 8 ≤ count → length text - 8 + (count - 8) ≡ prefix_len p text
    run_ends_late late =
        sym (prefix_len_is p text end 0 (omega (arith, within, long, late)) (passes_to_end late) (stops_at_end late))
