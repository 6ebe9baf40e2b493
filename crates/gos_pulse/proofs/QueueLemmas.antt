-- The `next` entries that are given in a cycle, one after another.
use Rattle.std.proofs.Common.{◌≡◌, ◌<◌, ◌+◌, ℕ, zero, suc, Bool, true, false, not, cond, List, [], ◌∷◌, ◌++◌, All, length, reverse, take, get_or, refl, sym, ap, subst, ◌∙◌, arith, append_assoc, append-nil}
use Rattle.std.proofs.lemmas.List.{reverse-append, take_more}
use Rattle.gos_netlist.specs.Nets.{Netlist}
use Rattle.gos_model.specs.Labels.{Label}
use Rattle.gos_pulse.specs.declared.board.Board.{Board}
use Rattle.gos_pulse.specs.declared.entries.Entry.{Entry}
use Rattle.gos_pulse.specs.Driving.{GivesInput, GivesIn, IsHeld, next_entries}
use Rattle.gos_pulse.specs.inner.Board.{IsTried, Stands}
use Rattle.gos_pulse.specs.inner.Queue.{AreGiven, IsFirstGiven, IsFirstHeld}

next-append : (xs ys : List Entry) → next_entries (xs ++ ys) ≡ next_entries xs ++ next_entries ys
next-append [] ys = refl
next-append (x ∷ xs) ys = by (not x.at) (next-append xs ys)
  where
    by : (b : Bool) → next_entries (xs ++ ys) ≡ next_entries xs ++ next_entries ys → cond b (x ∷ next_entries (xs ++ ys)) (next_entries (xs ++ ys)) ≡ cond b (x ∷ next_entries xs) (next_entries xs) ++ next_entries ys
    by true rest = ap (λ (es : List Entry). x ∷ es) rest
    by false rest = rest

-- the `next` entries, one entry more
pub next_more : (file : List Entry) (i : ℕ) (none : Entry) → i < length file → next_entries (take (i + 1) file) ≡ next_entries (take i file) ++ next_entries (get_or file i none ∷ [])
next_more file i none within = ap next_entries (take_more file i none within) ∙ next-append (take i file) (get_or file i none ∷ [])

all_first : (net : Netlist) (entry : Entry) (rest : List Entry) → All (GivesInput net) (entry ∷ rest) → GivesInput net entry
all_first net entry rest known = known 0 entry (omega arith)

all_rest : (net : Netlist) (entry : Entry) (rest : List Entry) → All (GivesInput net) (entry ∷ rest) → All (GivesInput net) rest
all_rest net entry rest known = λ k d less. known (suc k) d (omega (arith, less))

-- entries that give inputs do so where they are `next` entries
pub next_known : (net : Netlist) (file : List Entry) → All (GivesInput net) file → All (GivesInput net) (next_entries file)
next_known net [] known = λ k d less. absurd (omega (arith, less))
next_known net (x ∷ file) known = by (not x.at) (next_known net file (all_rest net x file known))
  where
    by : (b : Bool) → All (GivesInput net) (next_entries file) → All (GivesInput net) (cond b (x ∷ next_entries file) (next_entries file))
    by false rest = rest
    by true rest = λ k d less. at k d less
      where
        at : (k : ℕ) (d : Entry) → k < length (x ∷ next_entries file) → GivesInput net (get_or (x ∷ next_entries file) k d)
        at zero d less = all_first net x file known
        at (suc k) d less = rest k d (omega (arith, less))

-- the first entry gives an input
pub first_known : (net : Netlist) (entries : List Entry) (entry : Entry) (rest : List Entry) → entries ≡ entry ∷ rest → All (GivesInput net) entries → GivesInput net entry
first_known net entries entry rest is known = all_first net entry rest (subst (All (GivesInput net)) is known)

-- the protocol doesn't allow it
pub held_by : (net : Netlist) (past given : List Label) (t since : ℕ) (entries : List Entry) (entry : Entry) (rest : List Entry) (board : Board) → entries ≡ entry ∷ rest → IsTried net past given entry false board → IsFirstHeld net past given t since entries board
held_by net past given t since entries entry rest board is tried =
    record { held = subst (IsHeld net (reverse given ++ past) t since) (sym is) (λ _. tried.0); stands = tried.1 }

-- These labels were given for the first of the entries, and whatever the rest gives, the whole gives after them.
pub record GivenTo (net : Netlist) (past given : List Label) (t since0 : ℕ) (entries0 : List Entry) (since : ℕ) (entries : List Entry) (board : Board) : Type 0 where
  pub labels : List Label
  pub stands : Stands net past (given ++ labels) board
  pub known : All (GivesInput net) entries
  pub gives : (more : List Label) (last : ℕ) (rest : List Entry) → GivesIn net (reverse (given ++ labels) ++ past) t since entries more last rest → GivesIn net (reverse given ++ past) t since0 entries0 (labels ++ more) last rest

pub none_given : (net : Netlist) (past given : List Label) (t since : ℕ) (entries : List Entry) (board : Board) → Stands net past given board → All (GivesInput net) entries → GivenTo net past given t since entries since entries board
none_given net past given t since entries board stands known =
    record {
      labels = [];
      stands = subst (λ (ls : List Label). Stands net past ls board) (sym (append-nil given)) stands;
      known = known;
      gives = λ more last rest h. subst (λ (ls : List Label). GivesIn net (reverse ls ++ past) t since entries more last rest) (append-nil given) h;
    }

gives_nothing : (net : Netlist) (past : List Label) (t since : ℕ) (entries : List Entry) → IsHeld net past t since entries → GivesIn net past t since entries [] since entries
gives_nothing net past t since entries held = (held, refl, refl)

module _ (net : Netlist) (past given : List Label) (t since0 : ℕ) (entries0 : List Entry) (since : ℕ) (entries : List Entry) (board : Board) (so_far : GivenTo net past given t since0 entries0 since entries board) where
  -- one entry more was given
  pub given_more : (now : ℕ) (rest : List Entry) (new : Board) → now ≡ t → IsFirstGiven net past (given ++ so_far.labels) t since entries rest new → GivenTo net past given t since0 entries0 now rest new
  given_more now rest new is_now first =
      let l : Label = first.tried.0 in
      let moved : given ++ (so_far.labels ++ l ∷ []) ≡ (given ++ so_far.labels) ++ l ∷ [] = sym (append_assoc given so_far.labels (l ∷ [])) in
      let after : reverse (given ++ (so_far.labels ++ l ∷ [])) ++ past ≡ l ∷ (reverse (given ++ so_far.labels) ++ past) =
      ap (λ (ls : List Label). reverse ls ++ past) moved ∙ ap (λ (ls : List Label). ls ++ past) (reverse-append (given ++ so_far.labels) (l ∷ [])) in
      record {
        labels = so_far.labels ++ l ∷ [];
        stands = subst (λ (ls : List Label). Stands net past ls new) (sym moved) first.tried.2;
        known = all_rest net first.entry rest (subst (All (GivesInput net)) first.first so_far.known);
        gives = λ more last end h.
            let here : GivesIn net (l ∷ (reverse (given ++ so_far.labels) ++ past)) t t rest more last end =
            subst (λ (n : ℕ). GivesIn net (l ∷ (reverse (given ++ so_far.labels) ++ past)) t n rest more last end) is_now
            (subst (λ (ls : List Label). GivesIn net ls t now rest more last end) after h) in
            subst (λ (ls : List Label). GivesIn net (reverse given ++ past) t since0 entries0 ls last end) (sym (append_assoc so_far.labels (l ∷ []) more))
            (so_far.gives (l ∷ more) last end
            (subst (λ (es : List Entry). GivesIn net (reverse (given ++ so_far.labels) ++ past) t since es (l ∷ more) last end) (sym first.first)
            (first.passed, first.tried.1, here)));
      }

  -- no more is given
  pub all_given : (new : Board) → IsFirstHeld net past (given ++ so_far.labels) t since entries new → AreGiven net past given t since0 entries0 since entries new
  all_given new held =
      record {
        labels = so_far.labels;
        gives =
            subst (λ (ls : List Label). GivesIn net (reverse given ++ past) t since0 entries0 ls since entries) (append-nil so_far.labels)
            (so_far.gives [] since entries (gives_nothing net (reverse (given ++ so_far.labels) ++ past) t since entries held.held));
        stands = held.stands;
        known = so_far.known;
      }
