-- How the way goes on at each form.
use Rattle.std.proofs.Common.{◌≡◌, ◌⊎◌, ℕ, zero, suc, List, [], ◌∷◌, refl, sym, ap, subst, inl, inr, ◌∙◌}
use Rattle.gos_types.specs.Types.{Type'}
use Rattle.gos_model.specs.Terms.{Name, Op, Term, Skip, Lit, Bound, Import, Lam, App, Both, Fst, Snd, Seq, Par, If, While, Assign, Deref, New, NewArray, Not, Bin, Loc, Arr, Scope, Wait, Held, Put}
use Rattle.gos_model.specs.Typing.{Imports, Named, Apart}
use Rattle.gos_model.specs.Reach.{IsArrayHead, IsArrayPlace}
use Rattle.gos_model.specs.Steps.{IsValue, Locates}
use Rattle.gos_model.specs.Labels.{Port, Given, Taken, Label as Shown}
use Rattle.gos_model.proofs.HeadLemmas.{Lower}
use Rattle.gos_programs.specs.contexts.Contexts.{Context, SeqFirst, ParLeft, ParRight, IfTest, BinLeft, HeldRight, NotOf, AssignRight, ScopeBody, ReadIndex, WriteIndex, plug, ReadAt, WriteAt, IsAlone}
use Rattle.gos_programs.proofs.contexts.BackwardLemmas.{OneHead, OneLabel}
use Rattle.gos_swaps.specs.doings.Doings.{Unfolding}
use Rattle.gos_swaps.specs.doings.Sides.{way}
use Rattle.gos_swaps.specs.needed.Needed.{HasPort, IsOut}
use Rattle.gos_swaps.proofs.doings.SideLemmas.{Inside, inside, Ways, ways, one_of, neither, none_of_three, no_head, array_not_shown, port_not_located, no_lower_import, no_lower_access, IsShown, shown_read, shown_write}
use Rattle.gos_swaps.proofs.proper.ThingLemmas.{nothing}
use Rattle.gos_witness.specs.declared.needed.Turn.{Turn}
use Rattle.gos_witness.specs.declared.needed.Turn.TheVariants as turns
use Rattle.gos_witness.specs.declared.needed.Way.{Way}
use Rattle.gos_witness.specs.declared.needed.Way.TheVariants as places
use Rattle.gos_witness.specs.declared.nodes.OnePart.{OnePart}
use Rattle.gos_witness.specs.declared.nodes.OnePart.TheVariants as one
use Rattle.gos_witness.specs.NodeLists.{Listed, Tables, one_term, seen}
use Rattle.gos_witness.specs.inner.Ends.{IsRest, HasNoHead, HasNoLabel, IsChain, EndsAtHead, EndsAtStep, EndsAtLabel, steps_of, IsTurn, Enters, IsAccessTurn, IsPortNode, IsPortTurn}
use Rattle.gos_witness.proofs.EndLemmas.{rest_here}

-- What has no contexts is at rest.

rest_none : (m : Term) → ((c : Context) (z : Term) → Inside m c z → ⊥) → IsRest m
rest_none m none c z e = absurd (none c z (subst (λ (y : Term). Inside y c z) (sym e) (inside c z)))

-- and no head is at a term at rest but its own
no_heads : (m : Term) → IsRest m → ((t : Term) → OneHead m t → ⊥) → HasNoHead m
no_heads m rests none path t h = none t (one_of path m t (rest_here [] Unfolding [] [] path m t rests (h, refl)).0)

still : (m : Term) → ((c : Context) (z : Term) → Inside m c z → ⊥) → ((t : Term) → OneHead m t → ⊥) → HasNoLabel m → EndsAtStep m
still m none no_one no_label = (rest_none m none, no_heads m (rest_none m none) no_one, no_label)

pub skip_turn : EndsAtStep Skip
skip_turn = still Skip (λ c z h. h) (λ t h. none_of_three h) (λ i o t h. neither h)

pub lit_turn : (k w : ℕ) → EndsAtStep (Lit k w)
lit_turn k w = still (Lit k w) (λ c z h. h) (λ t h. none_of_three h) (λ i o t h. neither h)

pub bound_turn : (n : ℕ) → EndsAtStep (Bound n)
bound_turn n = still (Bound n) (λ c z h. h) (λ t h. none_of_three h) (λ i o t h. neither h)

pub loc_turn : (l : ℕ) → EndsAtStep (Loc l)
loc_turn l = still (Loc l) (λ c z h. h) (λ t h. none_of_three h) (λ i o t h. neither h)

pub arr_turn : (l : ℕ) → EndsAtStep (Arr l)
arr_turn l = still (Arr l) (λ c z h. h) (λ t h. none_of_three h) (λ i o t h. neither h)

pub lam_turn : (a : Type') (m : Term) → EndsAtStep (Lam a m)
lam_turn a m = still (Lam a m) (λ c z h. h) (λ t h. none_of_three h) (λ i o t h. neither h)

pub new_turn : (w : ℕ) (m : Term) → EndsAtStep (New w m)
new_turn w m = still (New w m) (λ c z h. h) (λ t h. none_of_three h) (λ i o t h. neither h)

pub array_turn : (n w : ℕ) (m : Term) → EndsAtStep (NewArray n w m)
array_turn n w m = still (NewArray n w m) (λ c z h. h) (λ t h. none_of_three h) (λ i o t h. neither h)

pub both_turn : (m n : Term) → EndsAtStep (Both m n)
both_turn m n = still (Both m n) (λ c z h. h) (λ t h. none_of_three h) (λ i o t h. neither h)

pub while_turn : (m n : Term) → EndsAtStep (While m n)
while_turn m n = still (While m n) (λ c z h. h) (λ t h. none_of_three h) (λ i o t h. neither h)

-- A port, and a head.

pub import_turn : (x : Name) → EndsAtLabel (Import x)
import_turn x =
    let rests = rest_none (Import x) (λ c z h. h) in (rests, no_heads (Import x) rests (λ t h. none_of_three h), λ s u t h. h)

pub wait_turn : (x : Name) (n : ℕ) → EndsAtLabel (Wait x n)
wait_turn x n =
    let rests = rest_none (Wait x n) (λ c z h. h) in (rests, no_heads (Wait x n) rests (λ t h. none_of_three h), λ s u t h. h)

pub app_turn : (m n : Term) → EndsAtHead (App m n)
app_turn m n = (rest_none (App m n) (λ c z h. h), (λ s u t h. h), λ i o t h. neither h)

pub fst_turn : (m : Term) → EndsAtHead (Fst m)
fst_turn m = (rest_none (Fst m) (λ c z h. h), (λ s u t h. h), λ i o t h. neither h)

pub snd_turn : (m : Term) → EndsAtHead (Snd m)
snd_turn m = (rest_none (Snd m) (λ c z h. h), (λ s u t h. h), λ i o t h. neither h)

-- A part that is reached, in a context beside which nothing is.

rest_in : (c : Context) (z : Term) → IsAlone c → IsValue z → IsRest (plug c z)
rest_in c z alone is d y e = by (ways c d z y e)
  where
    by : Ways c d z y → IsValue y
    by (inl (ec, ez)) = subst IsValue ez is
    by (inr (inl (ec, ed))) = absurd (subst IsAlone ec alone)
    by (inr (inr (ed, ec))) = absurd (subst IsAlone ec alone)

no_label_in : (c : Context) (z : Term) → IsAlone c → HasNoLabel (plug c z)
no_label_in (SeqFirst n) z alone i o t h = neither h
no_label_in (ParLeft n) z alone i o t h = absurd alone
no_label_in (ParRight n) z alone i o t h = absurd alone
no_label_in (IfTest n p) z alone i o t h = neither h
no_label_in (BinLeft op n) z alone i o t h = neither h
no_label_in (HeldRight k op) z alone i o t h = neither h
no_label_in NotOf z alone i o t h = neither h
no_label_in (AssignRight n) z alone i o t h = neither h
no_label_in (ScopeBody l) z alone i o t h = neither h
no_label_in (ReadIndex x n) z alone i o t h = absurd alone
no_label_in (WriteIndex x n k) z alone i o t h = absurd alone
no_label_in (ReadAt l) z alone i o t h = array_not_shown i o l z (shown_read i o (App (Arr l) z) t h)
no_label_in (WriteAt l k) z alone i o t h = array_not_shown i o l z (shown_write i o (App (Arr l) z) t k h)

value_in : (c : Context) (z : Term) → IsAlone c → IsValue z → EndsAtStep (plug c z)
value_in c z alone is =
    let rests = rest_in c z alone is in (rests, no_heads (plug c z) rests (λ t h. no_head c z t h), no_label_in c z alone)

out_alone : (o : Port) (c : Context) → IsAlone c → IsOut o c
out_alone o (SeqFirst n) alone = tt
out_alone o (ParLeft n) alone = absurd alone
out_alone o (ParRight n) alone = absurd alone
out_alone o (IfTest n p) alone = tt
out_alone o (BinLeft op n) alone = tt
out_alone o (HeldRight k op) alone = tt
out_alone o NotOf alone = tt
out_alone o (AssignRight n) alone = tt
out_alone o (ScopeBody l) alone = tt
out_alone o (ReadIndex x n) alone = tt
out_alone o (WriteIndex x n k) alone = tt
out_alone o (ReadAt l) alone = tt
out_alone o (WriteAt l k) alone = tt

entered : (l : Listed) (o : Port) (c : Context) (w : Way) (part : ℕ) (r : Turn) → IsAlone c → way c ≡ steps_of w → Enters l w part r
    → IsTurn l o (plug c (seen l part)) r
entered l o c w part r alone at (inl (is, er)) = subst (λ (z : Turn). IsTurn l o (plug c (seen l part)) z) (sym er) (value_in c (seen l part) alone is)
entered l o c w part r alone at (inr (alive, er)) =
    subst (λ (z : Turn). IsTurn l o (plug c (seen l part)) z) (sym er) (c, refl, at, out_alone o c alone, alive)

module _ (l : Listed) (o : Port) (part : ℕ) (r : Turn) where
  pub enters_not : Enters l places.First part r → IsTurn l o (Not (seen l part)) r
  enters_not h = entered l o NotOf places.First part r tt refl h

  pub enters_scope : (p : ℕ) → Enters l places.First part r → IsTurn l o (Scope p (seen l part)) r
  enters_scope p h = entered l o (ScopeBody p) places.First part r tt refl h

  pub enters_held : (k : ℕ) (op : Op) → Enters l places.First part r → IsTurn l o (Held k op (seen l part)) r
  enters_held k op h = entered l o (HeldRight k op) places.First part r tt refl h

  pub enters_seq : (n : Term) → Enters l places.First part r → IsTurn l o (Seq (seen l part) n) r
  enters_seq n h = entered l o (SeqFirst n) places.First part r tt refl h

  pub enters_bin : (op : Op) (n : Term) → Enters l places.First part r → IsTurn l o (Bin op (seen l part) n) r
  enters_bin op n h = entered l o (BinLeft op n) places.First part r tt refl h

  pub enters_if : (n p : Term) → Enters l places.First part r → IsTurn l o (If (seen l part) n p) r
  enters_if n p h = entered l o (IfTest n p) places.First part r tt refl h

  pub enters_assign : (m : Term) → Enters l places.Second part r → IsTurn l o (Assign m (seen l part)) r
  enters_assign m h = entered l o (AssignRight m) places.Second part r tt refl h

-- The sides of `||`.

value_has_no_port : (o : Port) (m : Term) → IsValue m → HasPort o m → ⊥
value_has_no_port Given m is h = h
value_has_no_port (Taken x) m (inl e) h = nothing (Named x) (subst (λ (z : Term). HasPort (Taken x) z) e h)
value_has_no_port (Taken x) m (inr (k, w, e)) h = nothing (Named x) (subst (λ (z : Term). HasPort (Taken x) z) e h)

one_side : (o : Port) (m n : Term) → Apart m n → HasPort o n → HasPort o m → ⊥
one_side Given m n apart right left = left
one_side (Taken x) m n apart right left = apart (Named x) left right

par_rest : (m n : Term) → IsValue m → IsValue n → IsRest (Par m n)
par_rest m n left right d y e = by (ways d (ParLeft n) y m (sym e))
  where
    by : Ways d (ParLeft n) y m → IsValue y
    by (inl (ed, ey)) = subst IsValue (sym ey) left
    by (inr (inl (ed, en))) = absurd (cc en)
    by (inr (inr (en, ed))) = subst IsValue (cc en) right

pub sides_turn : (m n : Term) → IsValue m → IsValue n → EndsAtStep (Par m n)
sides_turn m n left right =
    let rests = par_rest m n left right in (rests, no_heads (Par m n) rests (λ t h. none_of_three h), λ i o t h. neither h)

module _ (l : Listed) (o : Port) (left right : ℕ) where
  pub right_by_value : IsValue (seen l left) → (IsValue (seen l right) → ⊥) → IsTurn l o (Par (seen l left) (seen l right)) (turns.Down places.Second right)
  right_by_value is alive = (ParRight (seen l left), refl, refl, value_has_no_port o (seen l left) is, alive)

  pub left_by_value : IsValue (seen l right) → (IsValue (seen l left) → ⊥) → IsTurn l o (Par (seen l left) (seen l right)) (turns.Down places.First left)
  left_by_value is alive = (ParLeft (seen l right), refl, refl, value_has_no_port o (seen l right) is, alive)

  pub right_by_port : Apart (seen l left) (seen l right) → HasPort o (seen l right) → (IsValue (seen l right) → ⊥)
      → IsTurn l o (Par (seen l left) (seen l right)) (turns.Down places.Second right)
  right_by_port apart has alive = (ParRight (seen l left), refl, refl, one_side o (seen l left) (seen l right) apart has, alive)

  pub left_by_port : (HasPort o (seen l right) → ⊥) → (IsValue (seen l left) → ⊥) → IsTurn l o (Par (seen l left) (seen l right)) (turns.Down places.First left)
  left_by_port out alive = (ParLeft (seen l right), refl, refl, out, alive)

-- Reads and writes.

-- what is an index of an access is a value
abbrev HasIndexDone : Term → Type 0
HasIndexDone m = ((x : Name) (n z : Term) → m ≡ App (Wait x 0) (Both n z) → IsValue z) × ((p : ℕ) (z : Term) → m ≡ App (Arr p) z → IsValue z)

read_rest : (m : Term) → HasIndexDone m → IsRest (Deref m)
read_rest m done (SeqFirst n) z e = absurd (cc e)
read_rest m done (ParLeft n) z e = absurd (cc e)
read_rest m done (ParRight n) z e = absurd (cc e)
read_rest m done (IfTest n p) z e = absurd (cc e)
read_rest m done (BinLeft op n) z e = absurd (cc e)
read_rest m done (HeldRight k op) z e = absurd (cc e)
read_rest m done NotOf z e = absurd (cc e)
read_rest m done (AssignRight n) z e = absurd (cc e)
read_rest m done (ScopeBody p) z e = absurd (cc e)
read_rest m done (ReadIndex x n) z e = done.0 x n z (cc e)
read_rest m done (WriteIndex x n k) z e = absurd (cc e)
read_rest m done (ReadAt p) z e = done.1 p z (cc e)
read_rest m done (WriteAt p k) z e = absurd (cc e)

write_rest : (m : Term) (k : ℕ) → HasIndexDone m → IsRest (Put m k)
write_rest m k done (SeqFirst n) z e = absurd (cc e)
write_rest m k done (ParLeft n) z e = absurd (cc e)
write_rest m k done (ParRight n) z e = absurd (cc e)
write_rest m k done (IfTest n p) z e = absurd (cc e)
write_rest m k done (BinLeft op n) z e = absurd (cc e)
write_rest m k done (HeldRight j op) z e = absurd (cc e)
write_rest m k done NotOf z e = absurd (cc e)
write_rest m k done (AssignRight n) z e = absurd (cc e)
write_rest m k done (ScopeBody p) z e = absurd (cc e)
write_rest m k done (ReadIndex x n) z e = absurd (cc e)
write_rest m k done (WriteIndex x n j) z e = done.0 x n z (cc e)
write_rest m k done (ReadAt p) z e = absurd (cc e)
write_rest m k done (WriteAt p j) z e = done.1 p z (cc e)

-- no head below what is read or written, no number of the store, and no port
abbrev HasNoLower : Term → Type 0
HasNoLower m = (t : Term) → Lower m t → ⊥

abbrev HasNoNumber : Term → Type 0
HasNoNumber m = (p i : ℕ) → Locates m p i → ⊥

abbrev IsNotShown : Term → Type 0
IsNotShown m = (i : Imports) (o : Shown) → IsShown i o m → ⊥

read_lower : (m : Term) → HasNoLower m → (t : Term) → OneHead (Deref m) t → ⊥
read_lower m none t (inl h) = neither h
read_lower m none t (inr (m', e, h)) = none m' h

write_lower : (m : Term) (k : ℕ) → HasNoLower m → (t : Term) → OneHead (Put m k) t → ⊥
write_lower m k none t (inl h) = neither h
write_lower m k none t (inr (m', e, h)) = none m' h

step_access : (l : Listed) (m : Term) → HasIndexDone m → HasNoLower m → IsNotShown m → IsAccessTurn l m turns.Step
step_access l m done lower shown = record {
  read = λ o. (read_rest m done, no_heads (Deref m) (read_rest m done) (read_lower m lower), λ i k t h. shown i k (shown_read i k m t h));
  write = λ o k. (write_rest m k done, no_heads (Put m k) (write_rest m k done) (write_lower m k lower), λ i j t h. shown i j (shown_write i j m t k h));
}

label_access : (l : Listed) (m : Term) → HasIndexDone m → HasNoLower m → HasNoNumber m → IsAccessTurn l m turns.Label
label_access l m done lower number = record {
  read = λ o. (read_rest m done, no_heads (Deref m) (read_rest m done) (read_lower m lower), λ s u t h. number h.0.place h.1 h.3);
  write = λ o k. (write_rest m k done, no_heads (Put m k) (write_rest m k done) (write_lower m k lower), λ s u t h. number h.0.place h.1 h.3);
}

head_access : (l : Listed) (m : Term) (head : ℕ) → m ≡ seen l head → IsChain m → HasIndexDone m → HasNoNumber m → IsNotShown m → IsAccessTurn l m (turns.Operand head)
head_access l m head em chain done number shown = record {
  read = λ o. ((read_rest m done, (λ s u t h. number h.0.place h.1 h.3), λ i k t h. shown i k (shown_read i k m t h)), subst IsChain em chain, em);
  write = λ o k. ((write_rest m k done, (λ s u t h. number h.0.place h.1 h.3), λ i j t h. shown i j (shown_write i j m t k h)), subst IsChain em chain, em);
}

-- a read or a write
pub access_turn : (l : Listed) (a : Tables) (o : Port) (t : OnePart) (m : Term) (r : Turn) → (t ≡ one.Deref) ⊎ ((k : ℕ) × (t ≡ one.Put k)) → IsAccessTurn l m r
    → IsTurn l o (one_term a t m) r
access_turn l a o t m r (inl e) h = subst (λ (z : OnePart). IsTurn l o (one_term a z m) r) (sym e) (h.read o)
access_turn l a o t m r (inr (k, e)) h = subst (λ (z : OnePart). IsTurn l o (one_term a z m) r) (sym e) (h.write o k)

-- what is no application, no side of a pair and no import
abbrev pub IsPlain : Term → Type 0
IsPlain (Import x) = ⊥
IsPlain (App m n) = ⊥
IsPlain (Fst m) = ⊥
IsPlain (Snd m) = ⊥
IsPlain m = Unit {0}

abbrev IsNoApp : Term → Type 0
IsNoApp (App m n) = ⊥
IsNoApp m = Unit {0}

no_index : (m : Term) → IsNoApp m → HasIndexDone m
no_index m plain = ((λ x n z e. absurd (subst IsNoApp e plain)), λ p z e. absurd (subst IsNoApp e plain))

plain_no_app : (m : Term) → IsPlain m → IsNoApp m
plain_no_app (Import x) h = absurd h
plain_no_app (App m n) h = absurd h
plain_no_app (Fst m) h = absurd h
plain_no_app (Snd m) h = absurd h
plain_no_app m h = tt

plain_lower : (m t : Term) → IsPlain m → Lower m t → ⊥
plain_lower (App m n) t plain h = plain
plain_lower (Fst m) t plain h = plain
plain_lower (Snd m) t plain h = plain
plain_lower m t plain (inl h) = absurd h
plain_lower m t plain (inr h) = absurd h

plain_not_shown : (m : Term) → IsPlain m → IsNotShown m
plain_not_shown m plain i o (x, port, inl e) = subst IsPlain e plain
plain_not_shown m plain i o (x, port, inr ((h, n, e, is), array)) = subst IsPlain e plain

pub plain_access : (l : Listed) (m : Term) → IsPlain m → IsAccessTurn l m turns.Step
plain_access l m plain = step_access l m (no_index m (plain_no_app m plain)) (λ t h. plain_lower m t plain h) (plain_not_shown m plain)

pub import_access : (l : Listed) (x : Name) → IsAccessTurn l (Import x) turns.Label
import_access l x = label_access l (Import x) (no_index (Import x) tt) (λ t h. no_lower_import (Import x) x t refl h) no_number
  where
    no_number : HasNoNumber (Import x)
    no_number p i (inl (e, first)) = cc e
    no_number p i (inr (w, e)) = cc e

fst_number : (m : Term) → HasNoNumber (Fst m)
fst_number m p i (inl (e, first)) = cc e
fst_number m p i (inr (w, e)) = cc e

snd_number : (m : Term) → HasNoNumber (Snd m)
snd_number m p i (inl (e, first)) = cc e
snd_number m p i (inr (w, e)) = cc e

fst_shown : (m : Term) → IsNotShown (Fst m)
fst_shown m i o (x, port, inl e) = cc e
fst_shown m i o (x, port, inr ((h, n, e, is), array)) = cc e

snd_shown : (m : Term) → IsNotShown (Snd m)
snd_shown m i o (x, port, inl e) = cc e
snd_shown m i o (x, port, inr ((h, n, e, is), array)) = cc e

pub fst_access : (l : Listed) (m : Term) (head : ℕ) → seen l head ≡ Fst m → IsAccessTurn l (Fst m) (turns.Operand head)
fst_access l m head e = head_access l (Fst m) head (sym e) tt (no_index (Fst m) tt) (fst_number m) (fst_shown m)

pub snd_access : (l : Listed) (m : Term) (head : ℕ) → seen l head ≡ Snd m → IsAccessTurn l (Snd m) (turns.Operand head)
snd_access l m head e = head_access l (Snd m) head (sym e) tt (no_index (Snd m) tt) (snd_number m) (snd_shown m)

-- The index of an access.

array_done : (p : ℕ) (n : Term) → IsValue n → HasIndexDone (App (Arr p) n)
array_done p n is = ((λ x b z e. let bad : Arr p ≡ Wait x 0 = cc e in absurd (cc bad)), λ q z e. subst IsValue (cc e) is)

array_lower : (p : ℕ) (n : Term) → HasNoLower (App (Arr p) n)
array_lower p n t (inl (a, b, e, et)) = cc e
array_lower p n t (inr (h', e, g)) = neither g

pub array_value : (l : Listed) (m n : Term) (p : ℕ) → m ≡ Arr p → IsValue n → IsAccessTurn l (App m n) turns.Step
array_value l m n p e is =
    subst (λ (z : Term). IsAccessTurn l (App z n) turns.Step) (sym e)
    (step_access l (App (Arr p) n) (array_done p n is) (array_lower p n) (λ i o h. array_not_shown i o p n h))

pub array_index : (l : Listed) (m : Term) (index p : ℕ) → m ≡ Arr p → (IsValue (seen l index) → ⊥) → IsAccessTurn l (App m (seen l index)) (turns.Down places.Index index)
array_index l m index p e alive =
    subst (λ (z : Term). IsAccessTurn l (App z (seen l index)) (turns.Down places.Index index)) (sym e)
    (record { read = λ o. (ReadAt p, refl, refl, tt, alive); write = λ o k. (WriteAt p k, refl, refl, tt, alive) })

port_rests : (x : Name) (n : Term) → ((b z : Term) → n ≡ Both b z → IsValue z) → HasIndexDone (App (Wait x 0) n)
port_rests x n done = ((λ y b z e. done b z (cc e)), λ q z e. let bad : Wait x 0 ≡ Arr q = cc e in absurd (cc bad))

port_lower : (x : Name) (n : Term) → HasNoLower (App (Wait x 0) n)
port_lower x n t h = no_lower_access x (App (Wait x 0) n) t (Wait x 0, n, refl, inr (0, refl)) h

pub port_label : (l : Listed) (n : Term) → ((b z : Term) → n ≡ Both b z → IsValue z) → IsPortTurn l n turns.Label
port_label l n done x = label_access l (App (Wait x 0) n) (port_rests x n done) (port_lower x n) (λ p i h. port_not_located x n p i h)

pub port_index : (l : Listed) (b : Term) (index : ℕ) → (IsValue (seen l index) → ⊥) → IsPortTurn l (Both b (seen l index)) (turns.Down places.PortIndex index)
port_index l b index alive x = record { read = λ o. (ReadIndex x b, refl, refl, tt, alive); write = λ o k. (WriteIndex x b k, refl, refl, tt, alive) }

-- where the pair's second side is known, or there is no pair
pub port_done : (l : Listed) (n b : Term) (index : ℕ) → n ≡ Both b (seen l index) → IsValue (seen l index) → IsPortTurn l n turns.Label
port_done l n b index e is = port_label l n (λ d z e'. let two : Both b (seen l index) ≡ Both d z = sym e ∙ e' in let one : seen l index ≡ z = cc two in subst IsValue one is)

pub port_on : (l : Listed) (n b : Term) (index : ℕ) → n ≡ Both b (seen l index) → (IsValue (seen l index) → ⊥) → IsPortTurn l n (turns.Down places.PortIndex index)
port_on l n b index e alive = subst (λ (z : Term). IsPortTurn l z (turns.Down places.PortIndex index)) (sym e) (port_index l b index alive)

pub port_alone : (l : Listed) (n : Term) → ((b z : Term) → n ≡ Both b z → ⊥) → IsPortTurn l n turns.Label
port_alone l n none = port_label l n (λ b z e. absurd (none b z e))

-- a port that has not asked, and what is none
other_done : (m n : Term) → (IsArrayHead m → ⊥) → (IsArrayPlace m → ⊥) → HasIndexDone (App m n)
other_done m n head place = ((λ x b z e. absurd (head (x, cc e))), λ p z e. absurd (place (p, cc e)))

other_number : (m n : Term) → (IsArrayPlace m → ⊥) → HasNoNumber (App m n)
other_number m n place p i (inl (e, first)) = cc e
other_number m n place p i (inr (w, e)) = place (p, cc e)

pub other_port : (l : Listed) (m n : Term) → IsPortNode m → (IsArrayHead m → ⊥) → (IsArrayPlace m → ⊥) → IsAccessTurn l (App m n) turns.Label
other_port l (Import x) n is head place =
    label_access l (App (Import x) n) (other_done (Import x) n head place)
    (λ t h. no_lower_access x (App (Import x) n) t (Import x, n, refl, inl refl) h) (other_number (Import x) n place)
other_port l (Wait x s) n is head place =
    label_access l (App (Wait x s) n) (other_done (Wait x s) n head place)
    (λ t h. no_lower_access x (App (Wait x s) n) t (Wait x s, n, refl, inr (s, refl)) h) (other_number (Wait x s) n place)
other_port l m n is head place = absurd is

pub other_operand : (l : Listed) (m n : Term) (item : ℕ) → seen l item ≡ App m n → (IsPortNode m → ⊥) → (IsArrayHead m → ⊥) → (IsArrayPlace m → ⊥)
    → IsAccessTurn l (App m n) (turns.Operand item)
other_operand l m n item e other head place =
    head_access l (App m n) item (sym e) tt (other_done m n head place) (other_number m n place) not_shown
  where
    not_shown : IsNotShown (App m n)
    not_shown i o (x, port, inl em) = cc em
    not_shown i o (x, port, inr ((h, b, em, inl is), array)) = let same : m ≡ h = cc em in other (subst IsPortNode (sym (same ∙ is)) tt)
    not_shown i o (x, port, inr ((h, b, em, inr (s, is)), array)) = let same : m ≡ h = cc em in other (subst IsPortNode (sym (same ∙ is)) tt)
