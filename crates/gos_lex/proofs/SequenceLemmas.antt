-- Items of a text one behind the other: where the first breaks off, or the second behind it, there the sequence does.
--
-- Items that end with a byte of their own don't begin one another, so that a text is a sequence in one way at most.
use Rattle.std.proofs.Common.{◌≡◌, inl, inr, ◌⊎◌, ℕ, ◌+◌, ◌<◌, ◌≤◌, List, [], ◌∷◌, ◌++◌, length, get_or, refl, sym, ◌∙◌, ap, subst, arith, append_assoc, append-nil, length-append}
use Rattle.std.specs.List.{slice_range}
use Rattle.std.proofs.lemmas.Bool.{cases_lt}
use Rattle.gos_lex.specs.Items.{StopsAt, Misses}
use Rattle.gos_lex.proofs.PlaceLemmas.{length_slice, slice_split, slice_snoc}
use Rattle.gos_lex.proofs.ItemLemmas.{stops_bound}
use Rattle.gos_lex.specs.ItemTexts.{IsTextOf, ended}

-- an item, and behind it what may follow its value
abbrev pub Then : (V : Type 0) → (V → Type 0) → (V → List ℕ) → (V → List ℕ → Type 0) → List ℕ → Type 0
Then V Is text Rest bytes = (v : V) × (rest : List ℕ) × Is v × Rest v rest × (bytes ≡ text v ++ rest)

-- no text begins another one, and each is that of one value
abbrev pub IsCode : (V : Type 0) → (V → Type 0) → (V → List ℕ) → Type 0
IsCode V Is text = (v w : V) (x y : List ℕ) → Is v → Is w → text v ++ x ≡ text w ++ y → (v ≡ w) × (x ≡ y)

-- no text of this kind has the byte
abbrev pub Lacks : (List ℕ → Type 0) → ℕ → Type 0
Lacks IsItem c = (front more : List ℕ) → IsItem (front ++ c ∷ more) → ⊥

-- b and what makes it of a
abbrev pub Longer : List ℕ → List ℕ → List ℕ → List ℕ → Type 0
Longer a x b y = (more : List ℕ) × (a ≡ b ++ more) × (more ++ x ≡ y)

-- of two fronts of one list one begins with the other
pub fronts : (a x b y : List ℕ) → a ++ x ≡ b ++ y → Longer a x b y ⊎ Longer b y a x
fronts [] x b y e = inr (b, refl, sym e)
fronts (c ∷ a) x [] y e = inl (c ∷ a, refl, e)
fronts (c ∷ a) x (d ∷ b) y e =
    let same : c ≡ d = cc e in
    let rest : a ++ x ≡ b ++ y = cc e in
    elim (fronts a x b y rest) [
      | inl longer ↦ inl (longer.0, (λ i. same i ∷ longer.1 i), longer.2)
      | inr longer ↦ inr (longer.0, (λ i. sym same i ∷ longer.1 i), longer.2)
    ]

pub none_left : (more : List ℕ) → length more ≡ 0 → more ≡ []
none_left [] e = refl
none_left (c ∷ more) e = absurd (omega (arith, e))

-- two fronts of one list that are as long are the same
pub same_fronts : (a x b y : List ℕ) → a ++ x ≡ b ++ y → length a ≡ length b → (a ≡ b) × (x ≡ y)
same_fronts a x b y e long =
    elim (fronts a x b y e) [
      | inl longer ↦
          let nothing = none_left longer.0 (omega (arith, long, ap length longer.1, length-append b longer.0)) in
          (longer.1 ∙ (ap (λ more. b ++ more) nothing ∙ append-nil b), ap (λ more. more ++ x) (sym nothing) ∙ longer.2)
      | inr longer ↦
          let nothing = none_left longer.0 (omega (arith, long, ap length longer.1, length-append a longer.0)) in
          (sym (longer.1 ∙ (ap (λ more. a ++ more) nothing ∙ append-nil a)), sym (ap (λ more. more ++ y) (sym nothing) ∙ longer.2))
    ]

-- the front of a part stands where the part does
pub slice_front : (text : List ℕ) (at end : ℕ) (a more : List ℕ) → at ≤ end → end ≤ length text → slice_range text at end ≡ a ++ more
    → (at + length a ≤ end) × (slice_range text at (at + length a) ≡ a)
slice_front text at end a more after within is =
    let size = length_slice text at end within in
    let inside : at + length a ≤ end = omega (arith, size, ap length is, length-append a more, after) in
    let split = slice_split text at (at + length a) end (omega arith) inside in
    let long : length (slice_range text at (at + length a)) ≡ length a = omega (arith, length_slice text at (at + length a) (omega (arith, inside, within))) in
    (inside, (same_fronts (slice_range text at (at + length a)) (slice_range text (at + length a) end) a more (sym split ∙ is) long).0)

-- items that are the same ones break off at the same place
pub misses_as : (P Q : List ℕ → Type 0) (text : List ℕ) (at place : ℕ) → ((bytes : List ℕ) → P bytes → Q bytes) → ((bytes : List ℕ) → Q bytes → P bytes)
    → Misses P text at place → Misses Q text at place
misses_as P Q text at place to from misses =
    record {
      stops = record {
        after = misses.stops.after;
        within = misses.stops.within;
        before = (misses.stops.before.0, to _ misses.stops.before.1);
        stops = λ some longer. misses.stops.stops some (longer.0, from _ longer.1);
      };
      none = λ end after within item. misses.none end after within (from _ item);
    }

-- no item that stands here goes on as a sequence
pub no_item : (V : Type 0) (Is : V → Type 0) (text : V → List ℕ) (source : List ℕ) (at place end : ℕ) (v : V) (more : List ℕ)
    → Misses (IsTextOf V Is text) source at place → Is v → at ≤ end → end ≤ length source → slice_range source at end ≡ text v ++ more → ⊥
no_item V Is text source at place end v more misses is after within same =
    let front = slice_front source at end (text v) more after within same in
    misses.none (at + length (text v)) (omega arith) (omega (arith, front.0, within)) (v, is, front.1)

-- where the first item of a sequence breaks off, the sequence does
pub then_first : (V : Type 0) (Is : V → Type 0) (text : V → List ℕ) (Rest : V → List ℕ → Type 0) (source : List ℕ) (at place : ℕ)
    → ((v : V) → Is v → (rest : List ℕ) × Rest v rest) → Misses (IsTextOf V Is text) source at place → Misses (Then V Is text Rest) source at place
then_first V Is text Rest source at place goes_on misses =
    let before = misses.stops.before in
    let next = goes_on before.1.0 before.1.1 in
    let begun : slice_range source at place ++ (before.0 ++ next.0) ≡ text before.1.0 ++ next.0 =
    sym (append_assoc (slice_range source at place) before.0 next.0) ∙ ap (λ front. front ++ next.0) before.1.2 in
    record {
      stops = record {
        after = misses.stops.after;
        within = misses.stops.within;
        before = (before.0 ++ next.0, (before.1.0, next.0, before.1.1, next.1, begun));
        stops = λ some longer. stopped some longer.0 longer.1.0 longer.1.1 longer.1.2 longer.1.4;
      };
      none = λ end after within item. no_item V Is text source at place end item.0 item.1 misses item.2 after within item.4;
    }
  where
    stopped : place < length source → (more : List ℕ) (v : V) (rest : List ℕ) → Is v → slice_range source at (place + 1) ++ more ≡ text v ++ rest → ⊥
    stopped some more v rest is same =
        elim (fronts (slice_range source at (place + 1)) more (text v) rest same) [
          | inl longer ↦ no_item V Is text source at place (place + 1) v longer.0 misses is (omega (arith, misses.stops.after)) (omega (arith, some)) longer.1
          | inr longer ↦ misses.stops.stops some (longer.0, (v, is, sym longer.1))
        ]

-- where what follows the first item breaks off, the sequence does
pub then_rest : (V : Type 0) (Is : V → Type 0) (text : V → List ℕ) (Rest : V → List ℕ → Type 0) (source : List ℕ) (at mid place : ℕ) (v : V)
    → IsCode V Is text → Is v → at ≤ mid → mid ≤ length source → slice_range source at mid ≡ text v
    → Misses (Rest v) source mid place → Misses (Then V Is text Rest) source at place
then_rest V Is text Rest source at mid place v code is after within first misses =
    record {
      stops = record {
        after = omega (arith, after, misses.stops.after);
        within = misses.stops.within;
        before = (
          misses.stops.before.0,
          (
            v,
            slice_range source mid place ++ misses.stops.before.0,
            is,
            misses.stops.before.1,
            parts place misses.stops.before.0 misses.stops.after,
          ),
        );
        stops = λ some longer.
            let known = code v longer.1.0 (slice_range source mid (place + 1) ++ longer.0) longer.1.1 is longer.1.2 (sym (parts (place + 1) longer.0 (omega (arith, misses.stops.after))) ∙ longer.1.4) in
            misses.stops.stops some (longer.0, moved longer.1.0 longer.1.1 (slice_range source mid (place + 1) ++ longer.0) known.0 known.1 longer.1.3);
      };
      none = λ end above inside item. no_end end above inside item.0 item.1 item.2 item.3 item.4;
    }
  where
    -- a longer part, in two
    parts : (end : ℕ) (more : List ℕ) → mid ≤ end → slice_range source at end ++ more ≡ text v ++ (slice_range source mid end ++ more)
    parts end more above =
        ap (λ part. part ++ more) (slice_split source at mid end after above ∙ ap (λ front. front ++ slice_range source mid end) first)
        ∙ append_assoc (text v) (slice_range source mid end) more

    moved : (w : V) (rest known : List ℕ) → v ≡ w → known ≡ rest → Rest w rest → Rest v known
    moved w rest known same is_rest follows = subst (λ (u : V). Rest u known) (sym same) (subst (Rest w) (sym is_rest) follows)

    no_end : (end : ℕ) → at ≤ end → end ≤ length source → (w : V) (rest : List ℕ) → Is w → Rest w rest → slice_range source at end ≡ text w ++ rest → ⊥
    no_end end above inside w rest is_w follows same =
        elim (cases_lt end mid) [
          | inl short ↦
              let whole : text v ++ [] ≡ text w ++ (rest ++ slice_range source end mid) =
              append-nil (text v) ∙ (sym first ∙ (slice_split source at end mid above (omega (arith, short)) ∙ (ap (λ part. part ++ slice_range source end mid) same ∙ append_assoc (text w) rest (slice_range source end mid)))) in
              let known = code v w [] (rest ++ slice_range source end mid) is is_w whole in
              omega (arith, ap length known.1, length-append rest (slice_range source end mid), length_slice source end mid within, short)
          | inr long ↦
              let whole : text v ++ slice_range source mid end ≡ text w ++ rest =
              ap (λ front. front ++ slice_range source mid end) (sym first) ∙ (sym (slice_split source at mid end after long) ∙ same) in
              let known = code v w (slice_range source mid end) rest is is_w whole in
              misses.none end long inside (moved w rest (slice_range source mid end) known.0 known.1 follows)
        ]

-- What an item breaks off at, where it has to end with a byte that it can't have inside: its own place, unless it is
-- whole there and the byte stands behind it.
pub ended_misses : (V : Type 0) (Is : V → Type 0) (body : V → List ℕ) (c : ℕ) (text : List ℕ) (at place : ℕ) → Lacks (IsTextOf V Is body) c
    → (place < length text → get_or text place 0 ≡ c → IsTextOf V Is body (slice_range text at place) → ⊥)
    → StopsAt (IsTextOf V Is body) text at place → Misses (IsTextOf V Is (λ v. ended c (body v))) text at place
ended_misses V Is body c text at place lacks not_whole stops =
    record {
      stops = stopped;
      none = λ end after within item. no_end end after within item.0 item.1 item.2;
    }
  where
    IsBody : List ℕ → Type 0
    IsBody = IsTextOf V Is body

    -- the place is that of the byte
    at_end : place < length text → (v : V) → Is v → slice_range text at (place + 1) ≡ body v ++ c ∷ [] → ⊥
    at_end some v is same =
        let byte : List ℕ = get_or text place 0 ∷ [] in
        let snoc = slice_snoc text at place stops.after some in
        let long = length_slice text at (place + 1) (omega (arith, some)) in
        let shorter = length_slice text at place (omega (arith, some)) in
        let known = same_fronts (slice_range text at place) byte (body v) (c ∷ []) (sym snoc ∙ same) (omega (arith, long, shorter, ap length same, length-append (body v) (c ∷ []), stops.after)) in
        not_whole some (ap (λ bytes. get_or bytes 0 0) known.1) (v, is, known.0)

    goes_on : place < length text → (more : List ℕ) (v : V) → Is v → slice_range text at (place + 1) ++ more ≡ body v ++ c ∷ [] → ⊥
    goes_on some more v is same =
        elim (fronts (slice_range text at (place + 1)) more (body v) (c ∷ []) same) [
          | inl longer ↦ whole some more v is longer.0 longer.1 longer.2
          | inr longer ↦ stops.stops some (longer.0, (v, is, sym longer.1))
        ]
      where
        whole : place < length text → (more : List ℕ) (v : V) → Is v → (rest : List ℕ) → slice_range text at (place + 1) ≡ body v ++ rest → rest ++ more ≡ c ∷ [] → ⊥
        whole some more v is [] same left = stops.stops some ([], (v, is, append-nil (slice_range text at (place + 1)) ∙ (same ∙ append-nil (body v))))
        whole some more v is (d ∷ rest) same left =
            let byte : d ≡ c = cc left in
            let nothing = none_left rest (omega (arith, ap length left, length-append rest more)) in
            at_end some v is (same ∙ ap (λ bytes. body v ++ bytes) (λ i. byte i ∷ nothing i))

    stopped : StopsAt (IsTextOf V Is (λ v. ended c (body v))) text at place
    stopped =
        record {
          after = stops.after;
          within = stops.within;
          before = (
            stops.before.0 ++ c ∷ [],
            (stops.before.1.0, stops.before.1.1, sym (append_assoc (slice_range text at place) stops.before.0 (c ∷ [])) ∙ ap (ended c) stops.before.1.2),
          );
          stops = λ some longer. goes_on some longer.0 longer.1.0 longer.1.1 longer.1.2;
        }

    no_end : (end : ℕ) → at ≤ end → end ≤ length text → (v : V) → Is v → slice_range text at end ≡ ended c (body v) → ⊥
    no_end end after within v is same =
        let size = length_slice text at end within in
        let long = length-append (body v) (c ∷ []) in
        let front = slice_front text at end (body v) (c ∷ []) after within same in
        let bound = stops_bound IsBody text at place (at + length (body v)) stops (omega (arith, front.0, within)) (v, is, front.1) in
        elim (cases_lt (at + length (body v)) place) [
          | inl short ↦
              let split = slice_split text at end place after (omega (arith, size, ap length same, long, short, after)) in
              let begun : slice_range text at place ++ stops.before.0 ≡ body v ++ c ∷ (slice_range text end place ++ stops.before.0) =
              ap (λ part. part ++ stops.before.0) (split ∙ ap (λ part. part ++ slice_range text end place) same)
              ∙ (append_assoc (body v ++ c ∷ []) (slice_range text end place) stops.before.0 ∙ append_assoc (body v) (c ∷ []) (slice_range text end place ++ stops.before.0)) in
              lacks (body v) (slice_range text end place ++ stops.before.0) (stops.before.1.0, stops.before.1.1, sym begun ∙ stops.before.1.2)
          | inr long_enough ↦
              let here : end ≡ place + 1 = omega (arith, size, ap length same, long, bound, long_enough, after) in
              at_end (omega (arith, here, within)) v is (ap (slice_range text at) (sym here) ∙ same)
        ]

-- items that end with a byte that they can't have inside don't begin one another
pub ended_code : (V : Type 0) (Is : V → Type 0) (body : V → List ℕ) (c : ℕ) → Lacks (IsTextOf V Is body) c
    → ((v w : V) → Is v → Is w → body v ≡ body w → v ≡ w) → IsCode V Is (λ v. ended c (body v))
ended_code V Is body c lacks one v w x y is_v is_w same =
    let whole : body v ++ c ∷ x ≡ body w ++ c ∷ y =
    sym (append_assoc (body v) (c ∷ []) x) ∙ (same ∙ append_assoc (body w) (c ∷ []) y) in
    elim (fronts (body v) (c ∷ x) (body w) (c ∷ y) whole) [
      | inl longer ↦ let known = nothing v w x y is_v longer.0 longer.1 longer.2 in (one v w is_v is_w known.0, known.1)
      | inr longer ↦ let known = nothing w v y x is_w longer.0 longer.1 longer.2 in (one v w is_v is_w (sym known.0), sym known.1)
    ]
  where
    nothing : (v w : V) (x y : List ℕ) → Is v → (more : List ℕ) → body v ≡ body w ++ more → more ++ c ∷ x ≡ c ∷ y → (body v ≡ body w) × (x ≡ y)
    nothing v w x y is [] long rest = let tails : x ≡ y = cc rest in (long ∙ append-nil (body w), tails)
    nothing v w x y is (d ∷ more) long rest =
        let byte : d ≡ c = cc rest in
        absurd (lacks (body w) more (v, is, sym (long ∙ ap (λ b. body w ++ b ∷ more) byte)))
