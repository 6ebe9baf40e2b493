-- Ranks of handshakes: how many firings lead to a request, in cycles whose firings don't go on.
--
-- Read first: Quiet; Orderly of gos_plan. All ranks are 0 at first. A request that a firing puts has one rank more
-- than the handshake at which it took a token.
use Rattle.std.specs.Prelude.{◌≡◌, ℕ, suc, true, List, [], ◌∷◌, Some, slice_get, if◌then◌else◌}
use Rattle.gos_types.specs.Events.{Direction, Request, Answer}
use Rattle.gos_plan.specs.Firing.{Slot, Token, Row}
use Rattle.gos_plan.specs.Plans.{End, Plan, IsRight, same_end}
use Rattle.gos_plan.specs.Tokens.{Tokens, Element, Fire, places_of, end_of, way_of, token_at, firing_of, fired, IsIdle}
use Rattle.gos_plan.specs.Orderly.{handshake_at, Open, none_open, ComesInOrder, AllWelcome, OrderlyFrom}
use Rattle.gos_plan.specs.Made.{PartFiring}
use Rattle.gos_realises.specs.realises.Matched.{GoesOn}

-- the rank of each handshake, by its name
abbrev pub Ranks : Type 0
Ranks = End → ℕ

abbrev pub with_rank : End → ℕ → Ranks → Ranks
with_rank e n f = λ d. if same_end d e then n else f d

abbrev pub rank_put : Plan → End → Direction → ℕ → Ranks → Ranks
rank_put p e Request n f = with_rank (handshake_at p e) n f
rank_put p e Answer n f = f

-- the ranks after part i put these tokens, where a request gets rank n
abbrev pub ranks_after : Plan → ℕ → ℕ → List Token → Ranks → Ranks
ranks_after p i n [] f = f
ranks_after p i n (t ∷ ts) f = ranks_after p i n ts (rank_put p (end_of i t.slot) (way_of t.slot) n f)

-- A firing in order that doesn't go on. Before it o is open, the ranks are f and the tokens s; after it they are m,
-- h and w.
pub record Stepped (p : Plan) (i : ℕ) (slot : Slot) (o : Open) (f : Ranks) (s : Tokens) (m : Open) (h : Ranks) (w : Tokens) : Type 0 where
  pub value : ℕ
  pub row : Row
  pub lies : token_at p s (end_of i slot) (way_of slot) ≡ Some value
  pub fires : firing_of (slice_get p.parts i) (s.state i) slot ≡ Some row
  pub leads : w ≡ fired p i row value s
  pub comes : ComesInOrder p (Fire i slot) s o m
  pub welcome : AllWelcome p w
  pub stays : GoesOn p s (Fire i slot) []
  pub ranks : h ≡ ranks_after p i (suc (f (handshake_at p (end_of i slot)))) (row.puts value) f

-- such firings, one after another
abbrev pub Steps : Plan → List PartFiring → Open → Ranks → Tokens → Open → Ranks → Tokens → Type 0
Steps p [] o f s u g t = (u ≡ o) × (g ≡ f) × (t ≡ s)
Steps p (x ∷ xs) o f s u g t =
    (m : Open) × (h : Ranks) × (w : Tokens) × Stepped p x.part x.takes o f s m h w × Steps p xs m h w u g t

abbrev pub no_ranks : Ranks
no_ranks e = 0

-- an open handshake of rank r that has places
abbrev pub HasRank : Plan → Open → Ranks → ℕ → Type 0
HasRank p o f r = (e : End) × (d : End) × (places_of p e ≡ Some d) × (o d ≡ true) × (f d ≡ r)

-- Where a handshake of a rank is open, one of each lower rank is, since who asks on is not answered before.
abbrev pub RanksHold : Plan → Type 0
RanksHold p =
    (first s t : Tokens) (xs : List Element) (fs : List PartFiring) (o u : Open) (g : Ranks)
    → IsIdle p first → OrderlyFrom p xs none_open first o s → Steps p fs o no_ranks s u g t
    → (e : End) (r : ℕ) → u e ≡ true → g e ≡ suc r → HasRank p u g r

-- so it is in every plan whose joints are right
abbrev pub RightRanksHold : Type 0
RightRanksHold = (p : Plan) → IsRight p → RanksHold p
