-- Accesses of an array that is imported, as `exp i -> var w`: what a program puts and takes there.
--
-- Read first: Typing, Reach. An access is `! (x N)`, or `put (x N) k`. The program asks to read (event 2) or to write k
-- (event 4); the array asks for the index (event 1), for which N is reached, and gets its number (event 0); at last the array
-- answers with the number that it has there (event 3), or is done (event 5). As a function may ask its argument, the array may
-- ask for the index as often as it likes, or not at all. Of handshake h the program puts 2h and takes 2h + 1.
use Rattle.std.specs.Prelude.{◌≡◌, ◌⊎◌, ℕ, ◌^◌, ◌<◌, Some}
use Rattle.gos_types.specs.Types.{Exp, Var, Fun}
use Rattle.gos_model.specs.Terms.{Name, Term, Skip, Lit, Import, App, Both, Wait}
use Rattle.gos_model.specs.Typing.{Imports, import_type}
use Rattle.gos_model.specs.Reach.{Rel}

-- x is an import of an array of variables of w bits, with indices of i bits
abbrev pub IsArrayImport : Imports → Name → ℕ → ℕ → Type 0
IsArrayImport is x i w = import_type is x ≡ Some (Fun (Exp i) (Var w))

-- What an access `f m` of x puts, as event e with number k: its request `ask` with number a, or the number of its index. The
-- argument keeps the index as it was written, beside what it is now.
abbrev pub AccessPuts : Imports → (Term → Term) → (ask a : ℕ) → Name → (e k : ℕ) → Rel
AccessPuts is f ask a x e k m t =
    (i : ℕ) × (w : ℕ) × (n : Term) × IsArrayImport is x i w
    × (((m ≡ App (Import x) n) × (e ≡ ask) × (k ≡ a) × (t ≡ f (App (Wait x 1) (Both n n))))
    ⊎ ((j : Term) × (m ≡ App (Wait x 0) (Both n j)) × (j ≡ Lit k i) × (e ≡ 0) × (t ≡ f (App (Wait x 1) (Both n j)))))

-- what the answer to a read, of w bits, and that to a write leave
abbrev pub ReadEnds : ℕ → (e k : ℕ) → Term → Type 0
ReadEnds w e k t = (e ≡ 3) × (k < 2 ^ w) × (t ≡ Lit k w)

abbrev pub WriteEnds : ℕ → (e k : ℕ) → Term → Type 0
WriteEnds w e k t = (e ≡ 5) × (k ≡ 0) × (t ≡ Skip)

-- What it takes: that its index is asked for, which begins anew, or the answer with which it ends.
abbrev pub AccessTakes : Imports → (Term → Term) → (ℕ → ℕ → ℕ → Term → Type 0) → Name → (e k : ℕ) → Rel
AccessTakes is f Ends x e k m t =
    (i : ℕ) × (w : ℕ) × (n : Term) × (j : Term) × IsArrayImport is x i w × (m ≡ App (Wait x 1) (Both n j))
    × (((e ≡ 1) × (k ≡ 0) × (t ≡ f (App (Wait x 0) (Both n n)))) ⊎ Ends w e k t)
