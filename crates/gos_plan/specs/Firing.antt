-- The firing rules: what a part does with a token.
--
-- Read first: Kinds. A firing takes one token, which is the request or the answer of a handshake, puts others, and changes
-- the part's state, all at once. The rules of a kind are a table: a row for each token that a state takes.
use Rattle.std.specs.Prelude.{ℕ, suc, ◌+◌, ◌*◌, Bool, false, List, [], ◌∷◌, ◌++◌, length, Option, Some, None, nat_eq, if◌then◌else◌, get_or, set, replicate}
use Rattle.gos_types.specs.declared.shakes.Role.{Role}
use Rattle.gos_types.specs.declared.shakes.Role.TheVariants.{Serve, Ask}
use Rattle.gos_plan.specs.Kinds.{Part, Skip, Lit, Seq, Par, If, While, Op, Not, Assign, Deref, Local, Array, Share, Contact, contacts_of}
use Rattle.gos_model.specs.Terms.{result_of, complement}

-- What a part is at; `Rest` is idle, and a Share is always at rest. An array that is entered has numbers, in the order of their
-- indexes: in `Cells` nobody waits for one of them, and in `Reading` and `WritingTo` it waits for an index.
pub data Phase : Type 0 where
  Rest First Second Both LeftOnly RightOnly Test Branch Body Left Right Waiting Value Writing Active : Phase
  Cells Reading WritingTo : (numbers : List ℕ) → Phase

-- The state of a part. The number is the one held, that of a variable, the last one that came to be written to an array, or a
-- branch; an idle part may have any.
pub record State : Type 0 where
  pub phase : Phase
  pub number : ℕ

-- the request or the answer of a handshake
pub data Slot : Type 0 where
  Req Ans : (shake : ℕ) → Slot

-- a token and where it lies
pub record Token : Type 0 where
  pub slot : Slot
  pub value : ℕ

-- a row: the token that is taken, and, of its value, the state after it and the tokens put
pub record Row : Type 0 where
  pub takes : Slot
  pub next : ℕ → State
  pub puts : ℕ → List Token

-- a state
abbrev pub at : Phase → ℕ → State
at p n = record { phase = p; number = n }

-- a token
abbrev pub put : Slot → ℕ → Token
put s v = record { slot = s; value = v }

-- a row that leads to one state and puts one token
abbrev pub row : Slot → State → (ℕ → Token) → Row
row s q t = record { takes = s; next = λ v. q; puts = λ v. t v ∷ [] }

-- a row that leads to one state and puts nothing
abbrev pub quiet_row : Slot → State → Row
quiet_row s q = record { takes = s; next = λ v. q; puts = λ v. [] }

-- The rows of handshake j of a Share in the branch b, whose type has h handshakes.
abbrev pub shared_rows : Role → ℕ → ℕ → ℕ → List Row
shared_rows Serve h j b =
    row (Req (h + j)) (at Rest 0) (put (Req j))
    ∷ row (Req (h + h + j)) (at Rest 1) (put (Req j))
    ∷ row (Ans j) (at Rest b) (put (Ans (h + b * h + j))) ∷ []
shared_rows Ask h j b =
    row (Req j) (at Rest b) (put (Req (h + b * h + j)))
    ∷ row (Ans (h + b * h + j)) (at Rest b) (put (Ans j)) ∷ []

-- The rows of a Share in the branch b, from handshake j of its type on, which has h handshakes: those of the source are 0
-- to h - 1, and then come those of caller 0 and of caller 1. What a caller asks is passed to the source, and sets the
-- branch; what the source asks is passed to the caller of the branch.
abbrev pub share_rows : List Contact → ℕ → ℕ → ℕ → List Row
share_rows [] h j b = []
share_rows (c ∷ cs) h j b = shared_rows c.role h j b ++ share_rows cs h (suc j) b

-- one of two tokens, by a truth value
abbrev pub chosen : ℕ → Token → Token → Token
chosen v t u = if nat_eq v 1 then t else u

-- the rows of a part in a phase with a number
abbrev pub rows : Part → Phase → ℕ → List Row
rows Skip Rest n = row (Req 0) (at Rest n) (λ v. put (Ans 0) 0) ∷ []
rows (Lit w k) Rest n = row (Req 0) (at Rest n) (λ v. put (Ans 0) k) ∷ []
rows (Seq u) Rest n = row (Req 2) (at First n) (λ v. put (Req 0) 0) ∷ []
rows (Seq u) First n = row (Ans 0) (at Second n) (λ v. put (Req 1) 0) ∷ []
rows (Seq u) Second n = row (Ans 1) (at Rest n) (put (Ans 2)) ∷ []
rows Par Rest n = record { takes = Req 2; next = λ v. at Both n; puts = λ v. put (Req 0) 0 ∷ put (Req 1) 0 ∷ [] } ∷ []
rows Par Both n = quiet_row (Ans 0) (at RightOnly n) ∷ quiet_row (Ans 1) (at LeftOnly n) ∷ []
rows Par LeftOnly n = row (Ans 0) (at Rest n) (λ v. put (Ans 2) 0) ∷ []
rows Par RightOnly n = row (Ans 1) (at Rest n) (λ v. put (Ans 2) 0) ∷ []
rows (If u) Rest n = row (Req 3) (at Test n) (λ v. put (Req 0) 0) ∷ []
rows (If u) Test n =
    record { takes = Ans 0; next = λ v. at Branch v; puts = λ v. chosen v (put (Req 1) 0) (put (Req 2) 0) ∷ [] } ∷ []
rows (If u) Branch n = row (Ans (if nat_eq n 1 then 1 else 2)) (at Rest n) (put (Ans 3)) ∷ []
rows While Rest n = row (Req 2) (at Test n) (λ v. put (Req 0) 0) ∷ []
rows While Test n =
    record {
      takes = Ans 0;
      next = λ v. at (if nat_eq v 1 then Body else Rest) n;
      puts = λ v. chosen v (put (Req 1) 0) (put (Ans 2) 0) ∷ [];
    }
    ∷ []
rows While Body n = row (Ans 1) (at Test n) (λ v. put (Req 0) 0) ∷ []
rows (Op op w) Rest n = row (Req 2) (at Left n) (λ v. put (Req 0) 0) ∷ []
rows (Op op w) Left n = record { takes = Ans 0; next = λ a. at Right a; puts = λ a. put (Req 1) 0 ∷ [] } ∷ []
rows (Op op w) Right a = row (Ans 1) (at Rest a) (λ b. put (Ans 2) (result_of op w a b)) ∷ []
rows (Not w) Rest n = row (Req 1) (at Waiting n) (λ v. put (Req 0) 0) ∷ []
rows (Not w) Waiting n = row (Ans 0) (at Rest n) (λ a. put (Ans 1) (complement w a)) ∷ []
rows (Assign w) Rest n = row (Req 2) (at Value n) (λ v. put (Req 0) 0) ∷ []
rows (Assign w) Value n = row (Ans 0) (at Writing n) (put (Req 1)) ∷ []
rows (Assign w) Writing n = row (Ans 1) (at Rest n) (λ v. put (Ans 2) 0) ∷ []
rows (Deref w) Rest n = row (Req 1) (at Waiting n) (λ v. put (Req 0) 0) ∷ []
rows (Deref w) Waiting n = row (Ans 0) (at Rest n) (put (Ans 1)) ∷ []
rows (Local w u) Rest n = row (Req 3) (at Active 0) (λ v. put (Req 0) 0) ∷ []
rows (Local w u) Active n =
    row (Req 1) (at Active n) (λ v. put (Ans 1) n)
    ∷ record { takes = Req 2; next = λ a. at Active a; puts = λ a. put (Ans 2) 0 ∷ [] }
    ∷ row (Ans 0) (at Rest n) (put (Ans 3)) ∷ []
rows (Array w k u) Rest n = row (Req 4) (at (Cells (replicate k 0)) n) (λ v. put (Req 0) 0) ∷ []
rows (Array w k u) (Cells ns) n =
    row (Req 2) (at (Reading ns) n) (λ v. put (Req 1) 0)
    ∷ record { takes = Req 3; next = λ a. at (WritingTo ns) a; puts = λ a. put (Req 1) 0 ∷ [] }
    ∷ row (Ans 0) (at Rest n) (put (Ans 4)) ∷ []
rows (Array w k u) (Reading ns) n = row (Ans 1) (at (Cells ns) n) (λ j. put (Ans 2) (get_or ns j 0)) ∷ []
rows (Array w k u) (WritingTo ns) a =
    record { takes = Ans 1; next = λ j. at (Cells (set ns j a)) a; puts = λ j. put (Ans 3) 0 ∷ [] } ∷ []
rows (Share t) Rest b = share_rows (contacts_of t) (length (contacts_of t)) 0 b
rows k p n = []

-- whether two slots are one
abbrev pub same_slot : Slot → Slot → Bool
same_slot (Req h) (Req j) = nat_eq h j
same_slot (Ans h) (Ans j) = nat_eq h j
same_slot a b = false

-- the row of this token
abbrev pub row_for : Slot → List Row → Option Row
row_for s [] = None
row_for s (r ∷ rs) = if same_slot r.takes s then Some r else row_for s rs

-- what a part in this state does with a token, where it takes it
abbrev pub firing : Part → State → Slot → Option Row
firing k q s = row_for s (rows k q.phase q.number)
