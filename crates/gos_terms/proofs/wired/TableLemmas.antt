-- The handshakes that meet within nodes, by the numbers of the nodes.
--
-- Read first: FormLemmas.
use Rattle.std.specs.Prelude.{◌≡◌, ℕ, suc, ◌+◌, ◌≤◌, ◌<◌, Bool, true, false, List, [], nat_eq, nat_lt, if◌then◌else◌}
use Rattle.std.proofs.Common.{refl, ◌∙◌, arith}
use Rattle.std.proofs.lemmas.Bool.{lt-ltb, le-ltb, eq-eqb, ne_eqb}
use Rattle.gos_check.specs.Nodes.{Numbered, Closed, Use, Under, One, Two, If, type_of_node}
use Rattle.gos_plan.specs.Kinds.{Contact}
use Rattle.gos_compile.specs.Wiring.{nodes}
use Rattle.gos_terms.proofs.wired.FormLemmas.{one_table, two_table}

-- the table has them for a term whose nodes have numbers from j on
abbrev pub TableFits : (ℕ → List Contact) → ℕ → Numbered → Type 0
TableFits table j (Closed t ss c) = Unit {0}
TableFits table j (Use t ss n) = Unit {0}
TableFits table j (Under t ss b n m) = TableFits table (suc j) m
TableFits table j (One t ss f m) = (table j ≡ one_table f t (type_of_node m)) × TableFits table (suc j) m
TableFits table j (Two t ss f m n) =
    (table j ≡ two_table f (type_of_node m) (type_of_node n)) × TableFits table (suc j) m × TableFits table (suc j + nodes m) n
TableFits table j (If t ss m n p) =
    TableFits table (suc j) m × TableFits table (suc j + nodes m) n × TableFits table (suc j + nodes m + nodes n) p

-- there is such a table
abbrev pub table_of : ℕ → Numbered → ℕ → List Contact
table_of j (Closed t ss c) k = []
table_of j (Use t ss n) k = []
table_of j (Under t ss b n m) k = table_of (suc j) m k
table_of j (One t ss f m) k = if nat_eq k j then one_table f t (type_of_node m) else table_of (suc j) m k
table_of j (Two t ss f m n) k =
    if nat_eq k j then two_table f (type_of_node m) (type_of_node n)
    else if nat_lt k (suc j + nodes m) then table_of (suc j) m k
    else table_of (suc j + nodes m) n k
table_of j (If t ss m n p) k =
    if nat_lt k (suc j + nodes m) then table_of (suc j) m k
    else if nat_lt k (suc j + nodes m + nodes n) then table_of (suc j + nodes m) n k
    else table_of (suc j + nodes m + nodes n) p k

chosen : {X : Type 0} (b : Bool) (x y : X) → b ≡ true → (if b then x else y) ≡ x
chosen b x y e = λ i. if e i then x else y

passed : {X : Type 0} (b : Bool) (x y : X) → b ≡ false → (if b then x else y) ≡ y
passed b x y e = λ i. if e i then x else y

other : (k j : ℕ) → suc j ≤ k → nat_eq k j ≡ false
other k j h = ne_eqb k j (λ e. let f : k ≡ j = e in omega (arith, f, h))

abbrev Covers : (ℕ → List Contact) → ℕ → Numbered → Type 0
Covers table j m = (k : ℕ) → j ≤ k → k < j + nodes m → table k ≡ table_of j m k

pub fits_where : (table : ℕ → List Contact) (j : ℕ) (m : Numbered) → Covers table j m → TableFits table j m
fits_where table j (Closed t ss c) same = tt
fits_where table j (Use t ss n) same = tt
fits_where table j (Under t ss b n m) same =
    fits_where table (suc j) m (λ k low high. same k (omega (arith, low)) (omega (arith, high)))
fits_where table j (One t ss f m) same = (
  same j (omega arith) (omega arith)
      ∙ chosen (nat_eq j j) (one_table f t (type_of_node m)) (table_of (suc j) m j) (eq-eqb j j refl),
  fits_where table (suc j) m
      (λ k low high. same k (omega (arith, low)) (omega (arith, high))
      ∙ passed (nat_eq k j) (one_table f t (type_of_node m)) (table_of (suc j) m k) (other k j low)),
)
fits_where table j (Two t ss f m n) same = (
  same j (omega arith) (omega arith) ∙ chosen (nat_eq j j) (two_table f (type_of_node m) (type_of_node n)) (if nat_lt j (suc j + nodes m) then table_of (suc j) m j else table_of (suc j + nodes m) n j) (eq-eqb j j refl),
  fits_where table (suc j) m
      (λ k low high. same k (omega (arith, low)) (omega (arith, high))
      ∙ (passed (nat_eq k j) (two_table f (type_of_node m) (type_of_node n)) (if nat_lt k (suc j + nodes m) then table_of (suc j) m k else table_of (suc j + nodes m) n k) (other k j low)
      ∙ chosen (nat_lt k (suc j + nodes m)) (table_of (suc j) m k) (table_of (suc j + nodes m) n k) (lt-ltb k (suc j + nodes m) high))),
  fits_where table (suc j + nodes m) n
      (λ k low high. same k (omega (arith, low)) (omega (arith, high))
      ∙ (passed (nat_eq k j) (two_table f (type_of_node m) (type_of_node n)) (if nat_lt k (suc j + nodes m) then table_of (suc j) m k else table_of (suc j + nodes m) n k) (other k j (omega (arith, low)))
      ∙ passed (nat_lt k (suc j + nodes m)) (table_of (suc j) m k) (table_of (suc j + nodes m) n k) (le-ltb k (suc j + nodes m) low))),
)
fits_where table j (If t ss m n p) same = (
  fits_where table (suc j) m
      (λ k low high. same k (omega (arith, low)) (omega (arith, high))
      ∙ chosen (nat_lt k (suc j + nodes m)) (table_of (suc j) m k) (if nat_lt k (suc j + nodes m + nodes n) then table_of (suc j + nodes m) n k else table_of (suc j + nodes m + nodes n) p k) (lt-ltb k (suc j + nodes m) high)),
  fits_where table (suc j + nodes m) n
      (λ k low high. same k (omega (arith, low)) (omega (arith, high))
      ∙ (passed (nat_lt k (suc j + nodes m)) (table_of (suc j) m k) (if nat_lt k (suc j + nodes m + nodes n) then table_of (suc j + nodes m) n k else table_of (suc j + nodes m + nodes n) p k) (le-ltb k (suc j + nodes m) low)
      ∙ chosen (nat_lt k (suc j + nodes m + nodes n)) (table_of (suc j + nodes m) n k) (table_of (suc j + nodes m + nodes n) p k)
      (lt-ltb k (suc j + nodes m + nodes n) high))),
  fits_where table (suc j + nodes m + nodes n) p
      (λ k low high. same k (omega (arith, low)) (omega (arith, high))
      ∙ (passed (nat_lt k (suc j + nodes m)) (table_of (suc j) m k) (if nat_lt k (suc j + nodes m + nodes n) then table_of (suc j + nodes m) n k else table_of (suc j + nodes m + nodes n) p k) (le-ltb k (suc j + nodes m) (omega (arith, low)))
      ∙ passed (nat_lt k (suc j + nodes m + nodes n)) (table_of (suc j + nodes m) n k) (table_of (suc j + nodes m + nodes n) p k)
      (le-ltb k (suc j + nodes m + nodes n) low))),
)

pub table_fits : (j : ℕ) (m : Numbered) → TableFits (table_of j m) j m
table_fits j m = fits_where (table_of j m) j m (λ k low high. refl)
