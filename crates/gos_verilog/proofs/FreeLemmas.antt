-- Names that no port has so far: which bytes begin one, and which the name of the first net of a port of one.
use Rattle.std.proofs.Common.{◌≡◌, ◌⊎◌, inl, inr, ℕ, zero, suc, ◌+◌, ◌-◌, ◌*◌, ◌<◌, ◌≤◌, Bool, true, false, List, [], ◌∷◌, ◌++◌, length, take, Option, None, Some, refl, sym, ◌∙◌, ap, subst, arith, slice_get, append_assoc, append-nil, length-append}
use Rattle.std.specs.Prelude.{IsTrue, MatchOption, ◌↔◌, ◌&&◌, ◌/◌, ◌%◌}
use Rattle.std.specs.List.{list_all, slice_range}
use Rattle.std.specs.Str.{bytes_eq}
use Rattle.std.proofs.lemmas.Bool.{and_parts}
use Rattle.std.proofs.lemmas.Slice.Eq.{bytes_eq-Decides}
use Rattle.std.proofs.lemmas.List.Folds.{list_all-append}
use Rattle.gos_lex.specs.Bytes.{begins_name, continues_name}
use Rattle.gos_lex.specs.Names.{spells_name, IsNameOrWord}
use Rattle.gos_lex.specs.Items.{Begins, StopsAt}
use Rattle.gos_netcheck.specs.Rules.{Kept}
use Rattle.gos_lex.proofs.SequenceLemmas.{fronts}
use Rattle.std.proofs.Math.Seq.{take-append_seam}
use Rattle.gos_lex.specs.declared.table.NameTable.{NameTable}
use Rattle.gos_verilog.specs.declared.port_net.Role.{Role}
use Rattle.gos_verilog.specs.declared.port_net.Role.TheVariants.{Run, Done, Ask, Ans, AnsValue, Read, Write, WriteValue}
use Rattle.gos_verilog.specs.PortNets.{suffix}
use Rattle.gos_verilog.specs.inner.Left.{is_first}
use Rattle.gos_verilog.specs.inner.Faces.{Face', first_text, IsFree, IsFreeFace, IsFirstName, IsOther, AreKnown, Grows, IsNoEnd, IsNoName, IsNameBefore}
use Rattle.gos_lex.proofs.NameTextLemmas.{front_spelled}

pub contrary : {t : Bool} → t ≡ true → t ≡ false → ⊥
contrary is not = let both : true ≡ false = sym is ∙ not in cc both

-- what stands before an end
pub front_cut : (bytes end front : List ℕ) (cut : ℕ) → cut ≡ length bytes - length end → bytes ≡ front ++ end → take cut bytes ≡ front
front_cut bytes end front cut is whole =
    let size : cut ≡ length front = omega (arith, is, ap length whole, length-append front end) in (λ i. take (size i) (whole i)) ∙ take-append_seam front end

-- the first net of a port has one of three roles
pub first_role : (P : Role → Type 0) (r : Role) → is_first r ≡ true → P Run → P Ask → P Read → P r
first_role P Run first run ask read = run
first_role P Done first run ask read = absurd (cc first)
first_role P Ask first run ask read = ask
first_role P Ans first run ask read = absurd (cc first)
first_role P AnsValue first run ask read = absurd (cc first)
first_role P Read first run ask read = read
first_role P Write first run ask read = absurd (cc first)
first_role P WriteValue first run ask read = absurd (cc first)

-- the bytes are no free name and a role's suffix
abbrev pub IsNoFace : NameTable → List ℕ → Role → Type 0
IsNoFace places name role = (front : List ℕ) → IsFree places front → name ≡ front ++ suffix role → ⊥

pub no_face : (places : NameTable) (name : List ℕ) → IsNoFace places name Run → IsNoFace places name Ask → IsNoFace places name Read → (v : Face') → IsFreeFace places v → name ≡ first_text v → ⊥
no_face places name run ask read v free is = first_role (IsNoFace places name) v.0 free.0 run ask read v.1 free.1 is

pub face_found : (places : NameTable) (name front : List ℕ) (v : Face') (role : Role) → is_first role ≡ true → IsFree places front → name ≡ front ++ suffix role → v ≡ (role, front)
    → IsFreeFace places v × (name ≡ first_text v)
face_found places name front v role first free is same = subst (λ (u : Face'). IsFreeFace places u × (name ≡ first_text u)) (sym same) ((first, free), is)

-- a front of a role's suffix behind a free name
abbrev pub EndsAs : NameTable → List ℕ → Role → Type 0
EndsAs places bytes role = (front end more : List ℕ) × IsFree places front × (bytes ≡ front ++ end) × (suffix role ≡ end ++ more)

pub ends_begins : (places : NameTable) (bytes : List ℕ) (role : Role) → is_first role ≡ true → EndsAs places bytes role → Begins (IsFirstName places) bytes
ends_begins places bytes role first (front, end, more, free, is, parts) =
    (more, ((role, front), (first, free), ap (λ (b : List ℕ). b ++ more) is ∙ (append_assoc front end more ∙ ap (λ (b : List ℕ). front ++ b) (sym parts))))

pub grows_begins : (places : NameTable) (bytes : List ℕ) → Begins (IsFree places) bytes → Begins (IsFirstName places) bytes
grows_begins places bytes (x, free) = (x ++ suffix Run, ((Run, bytes ++ x), (refl, free), sym (append_assoc bytes x (suffix Run))))

pub begins_none : (places : NameTable) (bytes : List ℕ) → IsNoEnd places bytes Run → IsNoEnd places bytes Ask → IsNoEnd places bytes Read → (Begins (IsFree places) bytes → ⊥) → Begins (IsFirstName places) bytes → ⊥
begins_none places bytes run ask read none (more, (v, free, is)) =
    elim (fronts bytes more v.1 (suffix v.0) is) [
      | inl longer ↦ first_role (IsNoEnd places bytes) v.0 free.0 run ask read v.1 longer.0 more free.1 longer.1 (sym longer.2)
      | inr longer ↦ none (longer.0, subst (IsFree places) longer.1 free.1)
    ]

pub either_begins : (places : NameTable) (bytes : List ℕ) → IsNoEnd places bytes Run × IsNoEnd places bytes Ask × IsNoEnd places bytes Read → (is : Bool) → IsTrue is ↔ Begins (IsFree places) bytes
    → IsTrue is ↔ Begins (IsFirstName places) bytes
either_begins places bytes ends true known = ((λ _. grows_begins places bytes (known.0 refl)), (λ _. refl))
either_begins places bytes ends false known =
    ((λ yes. absurd (cc yes)), (λ begins. absurd (begins_none places bytes ends.0 ends.1 ends.2 (λ free. contrary (known.1 free) refl) begins)))

pub one_begins : (places : NameTable) (bytes : List ℕ) → Grows places bytes → Begins (IsFree places) bytes
one_begins places bytes (b, free) = (b ∷ [], free)

pub none_begins : (places : NameTable) (bytes : List ℕ) → IsFree places bytes → Begins (IsFree places) bytes
none_begins places bytes free = ([], subst (IsFree places) (sym (append-nil bytes)) free)

pub other_begins : (places : NameTable) (bytes name more : List ℕ) → name ≡ bytes ++ more → Grows places name → Begins (IsFree places) bytes
other_begins places bytes name more is (b, free) = (more ++ b ∷ [], subst (IsFree places) (ap (λ (n : List ℕ). n ++ b ∷ []) is ∙ append_assoc bytes more (b ∷ [])) free)

-- a port's name that begins with the bytes and grows
pub record Longer (places : NameTable) (faces : List Face') (bytes : List ℕ) : Type 0 where
  pub place : ℕ
  pub face : Face'
  pub at : slice_get faces place ≡ Some face
  pub more : List ℕ
  pub is : face.1 ≡ bytes ++ more
  pub grows : Grows places face.1

longer_part : (places : NameTable) (faces : List Face') (bytes : List ℕ) (b : ℕ) → Longer places faces (bytes ++ b ∷ []) → Longer places faces bytes
longer_part places faces bytes b longer =
    record { place = longer.place; face = longer.face; at = longer.at; more = b ∷ longer.more; is = longer.is ∙ append_assoc bytes (b ∷ []) longer.more; grows = longer.grows }

-- a name is another's, or one of these
abbrev Named : List Face' → List ℕ → Type 0
Named faces name = (k : ℕ) × (u : Face') × (slice_get faces k ≡ Some u) × (u.1 ≡ name)

find_name : (faces : List Face') (name : List ℕ) → IsOther name faces ⊎ Named faces name
find_name [] name = inl tt
find_name (u ∷ faces) name = by (bytes_eq u.1 name) refl (find_name faces name)
  where
    by : (t : Bool) → bytes_eq u.1 name ≡ t → IsOther name faces ⊎ Named faces name → IsOther name (u ∷ faces) ⊎ Named (u ∷ faces) name
    by true is rest = inr (zero, u, refl, (bytes_eq-Decides u.1 name).0 is)
    by false is (inl other) = inl ((λ same. let both : true ≡ false = sym ((bytes_eq-Decides u.1 name).1 same) ∙ is in cc both), other)
    by false is (inr (k, v, at, found)) = inr (suc k, v, at, found)

-- a front of a name is one
name_front : (bytes more : List ℕ) → 0 < length bytes → IsNameOrWord (bytes ++ more) → IsNameOrWord bytes
name_front bytes more some is =
    record { spelled = front_spelled bytes more some is.spelled; short = omega (arith, is.short, length-append bytes more) }

-- a free name that begins with the bytes: they are it, or they grow, or a port's name behind them does
pub walk : (places : NameTable) (faces : List Face') → AreKnown faces places → (x bytes : List ℕ) → IsFree places (bytes ++ x) → IsFree places bytes ⊎ (Grows places bytes ⊎ Longer places faces bytes)
walk places faces known [] bytes free = inl (subst (IsFree places) (append-nil bytes) free)
walk places faces known (b ∷ x) bytes free =
    elim (walk places faces known x (bytes ++ b ∷ []) whole) [
      | inl one ↦ inr (inl (b, one))
      | inr (inl grows) ↦ by grows (find_name faces (bytes ++ b ∷ []))
      | inr (inr longer) ↦ inr (inr (longer_part places faces bytes b longer))
    ]
  where
    whole : IsFree places ((bytes ++ b ∷ []) ++ x)
    whole = subst (IsFree places) (sym (append_assoc bytes (b ∷ []) x)) free

    by : Grows places (bytes ++ b ∷ []) → IsOther (bytes ++ b ∷ []) faces ⊎ Named faces (bytes ++ b ∷ [])
        → IsFree places bytes ⊎ (Grows places bytes ⊎ Longer places faces bytes)
    by grows (inl other) = inr (inl (b, (name_front (bytes ++ b ∷ []) x (omega (arith, length-append bytes (b ∷ []))) whole.0, (known (bytes ++ b ∷ [])).1 other)))
    by grows (inr (k, u, at, same)) = inr (inr (record { place = k; face = u; at = at; more = b ∷ []; is = same; grows = subst (Grows places) (sym same) grows }))

abbrev pub IsShorter : NameTable → List ℕ → ℕ → Face' → Type 0
IsShorter places bytes k v = (more : List ℕ) → v.1 ≡ bytes ++ more → Grows places v.1 → ⊥

pub no_free : (places : NameTable) (faces : List Face') (bytes : List ℕ) → AreKnown faces places → (IsFree places bytes → ⊥) → (Grows places bytes → ⊥) → Kept (IsShorter places bytes) faces → Begins (IsFree places) bytes → ⊥
no_free places faces bytes known one grows shorter (x, free) =
    elim (walk places faces known x bytes free) [
      | inl is ↦ one is
      | inr (inl more) ↦ grows more
      | inr (inr longer) ↦ shorter longer.place longer.face longer.at longer.more longer.is longer.grows
    ]

-- a byte of a name is of ASCII
low_byte : (b : ℕ) → continues_name b ≡ true → b < 128
low_byte b is = grind arith

last_byte : (bytes : List ℕ) (b : ℕ) → spells_name (bytes ++ b ∷ []) ≡ true → continues_name b ≡ true
last_byte [] b spelled = let parts = and_parts (begins_name b) true spelled in rw parts.0 refl
last_byte (c ∷ bytes) b spelled =
    let inner = and_parts (begins_name c) (list_all continues_name (bytes ++ b ∷ [])) spelled in
    let parts = and_parts (list_all continues_name bytes) (continues_name b && true) (sym (list_all-append continues_name bytes (b ∷ [])) ∙ inner.1) in
    (and_parts (continues_name b) true parts.1).0

pub no_growth : (places : NameTable) (bytes : List ℕ) → ((c : ℕ) → c < 128 → IsFree places (bytes ++ c ∷ []) → ⊥) → Grows places bytes → ⊥
no_growth places bytes none (b, free) = none b (low_byte b (last_byte bytes b free.0.spelled)) free

-- such a name has 261 bytes at most
suffix_size : (r : Role) → is_first r ≡ true → length (suffix r) ≤ 6
suffix_size r first = first_role (λ q. length (suffix q) ≤ 6) r first (omega arith) (omega arith) (omega arith)

pub begins_size : (places : NameTable) (bytes : List ℕ) → Begins (IsFirstName places) bytes → length bytes ≤ 261
begins_size places bytes (more, (v, free, is)) =
    omega (arith, ap length is, length-append bytes more, length-append v.1 (suffix v.0), free.1.0.short, suffix_size v.0 free.0)

-- words of two letters, as so many bits
abbrev bits : ℕ → ℕ → List ℕ
bits zero i = 97 ∷ []
bits (suc k) i = (97 + i % 2) ∷ bits k (i / 2)

abbrev count : ℕ → ℕ
count zero = 1
count (suc k) = 2 * count k

bits_code : (k i j : ℕ) → i < count k → j < count k → bits k i ≡ bits k j → i ≡ j
bits_code zero i j small_i small_j same = omega (arith, small_i, small_j)
bits_code (suc k) i j small_i small_j same =
    let low : 97 + i % 2 ≡ 97 + j % 2 = cc same in
    let high = bits_code k (i / 2) (j / 2) (omega (arith, small_i)) (omega (arith, small_j)) (cc same) in
    omega (arith, low, high)

letter : (i : ℕ) → begins_name (97 + i % 2) ≡ true
letter i = by (i % 2) (omega arith)
  where
    by : (b : ℕ) → b < 2 → begins_name (97 + b) ≡ true
    by zero small = refl
    by (suc zero) small = refl
    by (suc (suc b)) small = absurd (omega (arith, small))

bits_bytes : (k i : ℕ) → list_all continues_name (bits k i) ≡ true
bits_bytes zero i = refl
bits_bytes (suc k) i = rw (letter i, bits_bytes k (i / 2)) refl

bits_spelled : (k i : ℕ) → spells_name (bits k i) ≡ true
bits_spelled zero i = refl
bits_spelled (suc k) i = rw (letter i, bits_bytes k (i / 2)) refl

bits_size : (k i : ℕ) → length (bits k i) ≡ k + 1
bits_size zero i = refl
bits_size (suc k) i = let e : suc (k + 1) ≡ suc k + 1 = omega arith in ap suc (bits_size k (i / 2)) ∙ e

-- the numbers without one
abbrev skip : ℕ → ℕ → ℕ
skip zero j = suc j
skip (suc i) zero = zero
skip (suc i) (suc j) = suc (skip i j)

skip_other : (i j : ℕ) → skip i j ≡ i → ⊥
skip_other zero j same = omega (arith, same)
skip_other (suc i) zero same = omega (arith, same)
skip_other (suc i) (suc j) same = skip_other i j (omega (arith, same))

skip_code : (i j k : ℕ) → skip i j ≡ skip i k → j ≡ k
skip_code zero j k same = omega (arith, same)
skip_code (suc i) zero zero same = refl
skip_code (suc i) zero (suc k) same = absurd (omega (arith, same))
skip_code (suc i) (suc j) zero same = absurd (omega (arith, same))
skip_code (suc i) (suc j) (suc k) same = ap suc (skip_code i j k (omega (arith, same)))

skip_small : (i j n : ℕ) → j < n → skip i j < suc n
skip_small zero j n small = omega (arith, small)
skip_small (suc i) zero n small = omega arith
skip_small (suc i) (suc j) zero small = omega (arith, small)
skip_small (suc i) (suc j) (suc n) small = omega (arith, skip_small i j n (omega (arith, small)))

-- of more names than there are ports one is no port's
pigeon : (used : List Face') (n : ℕ) (f : ℕ → List ℕ) → length used < n → ((i j : ℕ) → i < n → j < n → f i ≡ f j → i ≡ j) → (i : ℕ) × (i < n) × IsOther (f i) used
pigeon [] n f room apart = (0, omega (arith, room), tt)
pigeon (u ∷ used) zero f room apart = absurd (omega (arith, room))
pigeon (u ∷ used) (suc n) f room apart =
    by (pigeon used (suc n) f (omega (arith, room)) apart) (λ g. pigeon used n g (omega (arith, room)))
  where
    Found : List Face' → ℕ → (ℕ → List ℕ) → Type 0
    Found faces m g = (i : ℕ) × (i < m) × IsOther (g i) faces

    Apart : ℕ → (ℕ → List ℕ) → Type 0
    Apart m g = (i j : ℕ) → i < m → j < m → g i ≡ g j → i ≡ j

    by : Found used (suc n) f → ((g : ℕ → List ℕ) → Apart n g → Found used n g) → Found (u ∷ used) (suc n) f
    by (i, inside, other) others = at (bytes_eq u.1 (f i)) refl
      where
        at : (t : Bool) → bytes_eq u.1 (f i) ≡ t → Found (u ∷ used) (suc n) f
        at false is = (i, inside, ((λ same. contrary ((bytes_eq-Decides u.1 (f i)).1 same) is), other))
        at true is =
            let rest = others (λ j. f (skip i j))
            (λ j k small_j small_k same. skip_code i j k (apart (skip i j) (skip i k) (skip_small i j n small_j) (skip_small i k n small_k) same)) in
            let here : u.1 ≡ f i = (bytes_eq-Decides u.1 (f i)).0 is in (
              skip i rest.0,
              skip_small i rest.0 n rest.1,
              ((λ same. skip_other i rest.0 (apart (skip i rest.0) i (skip_small i rest.0 n rest.1) inside (sym same ∙ here))), rest.2),
            )

-- so some name is free
pub nothing_begins : (places : NameTable) (faces : List Face') → AreKnown faces places → length faces < 4294967296 → Begins (IsFirstName places) []
nothing_begins places faces known few =
    let many : count 32 ≡ 4294967296 = refl in
    let found = pigeon faces (count 32) (bits 32) (omega (arith, few, many)) (λ i j. bits_code 32 i j) in
    let name : List ℕ = bits 32 found.0 in
    let short : length name ≤ 255 = omega (arith, bits_size 32 found.0) in
    grows_begins places [] (name, (record { spelled = bits_spelled 32 found.0; short = short }, (known name).1 found.2))

pub take_size : (n : ℕ) (text : List ℕ) → n ≤ length text → length (take n text) ≡ n
take_size zero text inside = refl
take_size (suc n) [] inside = absurd (omega (arith, inside))
take_size (suc n) (c ∷ text) inside = ap suc (take_size n text (omega (arith, inside)))

-- the place that the bytes reach
pub reached : (places : NameTable) (rest : List ℕ) (n : ℕ) → n ≤ length rest → Begins (IsFirstName places) (take n rest) → (n < length rest → Begins (IsFirstName places) (take (n + 1) rest) → ⊥) → StopsAt (IsFirstName places) rest 0 n
reached places rest n within begins stops =
    record {
      after = omega arith;
      within = within;
      before = (begins.0, subst (λ (b : List ℕ). IsFirstName places (b ++ begins.0)) (sym (part n)) begins.1);
      stops = λ some longer. stops some (longer.0, subst (λ (b : List ℕ). IsFirstName places (b ++ longer.0)) (part (n + 1)) longer.1);
    }
  where
    part : (m : ℕ) → slice_range rest 0 m ≡ take m rest
    part m = let e : m - 0 ≡ m = omega arith in λ i. take (e i) rest

-- a name before its comma, where there is one
pub comma_behind : (places : NameTable) (rest : List ℕ) (len : ℕ) → slice_get rest len ≡ Some 44 → (r : Option Face')
    → MatchOption r ((v : Face') → IsFreeFace places v → take len rest ≡ first_text v → ⊥) (λ v. IsFreeFace places v × (take len rest ≡ first_text v))
    → MatchOption r (IsNoName places rest len) (IsNameBefore places rest len)
comma_behind places rest len comma None none = λ v is. none v is.0 is.1
comma_behind places rest len comma (Some v) found = (found.0, found.1, comma)
