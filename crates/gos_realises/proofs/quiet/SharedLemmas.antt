-- What a Share passes on: its rows, by the handshakes of its type.
use Rattle.std.proofs.Common.{◌≡◌, ℕ, zero, suc, ◌+◌, ◌*◌, ◌<◌, List, [], ◌∷◌, length, Some, slice_get, refl, arith}
use Rattle.std.proofs.lemmas.Option.{slice_get_within}
use Rattle.gos_types.specs.declared.shakes.Role.{Role}
use Rattle.gos_types.specs.declared.shakes.Role.TheVariants.{Serve, Ask}
use Rattle.gos_types.specs.Types.{Type'}
use Rattle.gos_plan.specs.Kinds.{Share, Contact, contacts_of}
use Rattle.gos_plan.specs.Firing.{Rest, State, at, Slot, Req, Ans, Row, shared_rows, firing}
use Rattle.gos_plan.proofs.RowLemmas.{EachRow}
use Rattle.gos_plan.proofs.ShareTableLemmas.{share_row}

-- the handshake of caller x
abbrev pub caller : ℕ → ℕ → ℕ → ℕ
caller n x j = n + x * n + j

-- a number is that of one caller and of one handshake
pub one_shake : (n x y i j : ℕ) → i < n → j < n → caller n x i ≡ caller n y j → i ≡ j
one_shake n zero zero i j low less e = omega (arith, e)
one_shake n zero (suc y) i j low less e = absurd (omega (arith, e, low))
one_shake n (suc x) zero i j low less e = absurd (omega (arith, e, less))
one_shake n (suc x) (suc y) i j low less e = one_shake n x y i j low less (omega (arith, e))

-- a row passes handshake i on, in branch b, with value v
pub data Passes (n b i : ℕ) (role : Role) (v : ℕ) : Row → Type 0 where
  asked_first : role ≡ Serve → Passes n b i role v (record { takes = Req (n + i); next = λ w. at Rest 0; puts = λ w. record { slot = Req i; value = w } ∷ [] })
  asked_second : role ≡ Serve → Passes n b i role v (record { takes = Req (n + n + i); next = λ w. at Rest 1; puts = λ w. record { slot = Req i; value = w } ∷ [] })
  answered_source : role ≡ Serve → Passes n b i role v (record { takes = Ans i; next = λ w. at Rest b; puts = λ w. record { slot = Ans (caller n b i); value = w } ∷ [] })
  asked_source : role ≡ Ask → Passes n b i role v (record { takes = Req i; next = λ w. at Rest b; puts = λ w. record { slot = Req (caller n b i); value = w } ∷ [] })
  answered_caller : role ≡ Ask → Passes n b i role v (record { takes = Ans (caller n b i); next = λ w. at Rest b; puts = λ w. record { slot = Ans i; value = w } ∷ [] })

-- each row of a Share does, for a handshake of its type
pub record SharedRow (cs : List Contact) (b v : ℕ) (r : Row) : Type 0 where
  pub shake : ℕ
  pub contact : Contact
  pub there : slice_get cs shake ≡ Some contact
  pub low : shake < length cs
  pub passes : Passes (length cs) b shake contact.role v r

rows_shared : (t : Type') (b v j : ℕ) (c : Contact) → slice_get (contacts_of t) j ≡ Some c
    → EachRow (SharedRow (contacts_of t) b v) (shared_rows c.role (length (contacts_of t)) j b)
rows_shared t b v j c here = of_role c.role refl
  where
    row : (r : Row) → Passes (length (contacts_of t)) b j c.role v r → SharedRow (contacts_of t) b v r
    row r passes = record { shake = j; contact = c; there = here; low = slice_get_within (contacts_of t) j c here; passes = passes }

    of_role : (role : Role) → c.role ≡ role → EachRow (SharedRow (contacts_of t) b v) (shared_rows role (length (contacts_of t)) j b)
    of_role Serve is = (row _ (asked_first is), (row _ (asked_second is), (row _ (answered_source is), tt)))
    of_role Ask is = (row _ (asked_source is), (row _ (answered_caller is), tt))

pub shared_row : (t : Type') (q : State) (slot : Slot) (r : Row) (v : ℕ) → firing (Share t) q slot ≡ Some r → SharedRow (contacts_of t) q.number v r
shared_row t q slot r v fires = (share_row (SharedRow (contacts_of t) q.number v) t q slot r (rows_shared t q.number v) fires).1
