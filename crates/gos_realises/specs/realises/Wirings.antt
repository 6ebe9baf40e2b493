-- The wirings that realising speaks of: a variable that is read or written, a side of a product, a function's use.
--
-- Read first: Links; Joining of gos_plan.
use Rattle.std.specs.Prelude.{ℕ, zero, suc, [], List, ◌∷◌}
use Rattle.gos_types.specs.Types.{Type', Com, Exp}
use Rattle.gos_plan.specs.Kinds as kinds
use Rattle.gos_plan.specs.Kinds.{Part}
use Rattle.gos_plan.specs.Plans.{End, PartEnd, ResultEnd, Plan}
use Rattle.gos_plan.specs.Joining.{Link, Wiring, place}
use Rattle.gos_realises.specs.realises.Regular.{count}

-- the plan of one part, without weight, whose result is the handshake that the part serves
abbrev pub lone : Part → ℕ → Type' → Plan
lone k served t =
    record {
      weight = 0;
      imports = [];
      outcome = t;
      parts = k ∷ [];
      joints = record { asking = ResultEnd 0; serving = PartEnd 0 served } ∷ [];
    }

-- two handshakes of plans, joined
abbrev pub link : ℕ → End → ℕ → End → Link
link n a m b = record { one = place n a; other = place m b }

-- handshakes n, n + 1, .. of the results of plans 0 and l, so many of them, joined one to one
abbrev pub results_linked : ℕ → ℕ → ℕ → List Link
results_linked l n zero = []
results_linked l n (suc m) = link 0 (ResultEnd n) l (ResultEnd n) ∷ results_linked l (suc n) m

-- a plan of a variable joined to a Deref, and to an Assign and a Lit of k
abbrev pub reading : ℕ → Plan → Wiring
reading w p =
    record {
      plans = p ∷ lone (kinds.Deref w) 1 (Exp w) ∷ [];
      links = link 0 (ResultEnd 0) 1 (PartEnd 0 0) ∷ [];
      giver = 1;
      skipped = 0;
      outcome = Exp w;
    }

abbrev pub writing : ℕ → ℕ → Plan → Wiring
writing w k p =
    record {
      plans = p ∷ lone (kinds.Assign w) 2 Com ∷ lone (kinds.Lit w k) 0 (Exp w) ∷ [];
      links = link 0 (ResultEnd 1) 1 (PartEnd 0 1) ∷ link 1 (PartEnd 0 0) 2 (ResultEnd 0) ∷ [];
      giver = 1;
      skipped = 0;
      outcome = Com;
    }

-- a plan with one side of its result left unjoined: that of this type, from this handshake on
abbrev pub side : ℕ → Type' → Plan → Wiring
side skipped t p = record { plans = p ∷ []; links = []; giver = 0; skipped = skipped; outcome = t }

-- a plan of a function joined to one of its argument
abbrev pub applying : Type' → Type' → Plan → Plan → Wiring
applying a b p q =
    record { plans = p ∷ q ∷ []; links = results_linked 1 0 (count a); giver = 0; skipped = count a; outcome = b }
