-- What an access puts and takes goes with a map of terms, there and back; and what holds of it holds of what it becomes.
use Rattle.std.specs.Prelude.{◌≡◌, ℕ}
use Rattle.std.proofs.Common.{refl, sym, ap, subst, inl, inr, ◌∙◌}
use Rattle.gos_model.specs.Terms.{Name, Term, Skip, Lit, Import, App, Both, Wait}
use Rattle.gos_model.specs.Typing.{Imports, import_type}
use Rattle.gos_model.specs.Accesses.{IsArrayImport, AccessPuts, ReadEnds, WriteEnds, AccessTakes}

-- a map of terms that goes into applications and into the access itself, and leaves the port x
pub record GoesInto (g f : Term → Term) (x : Name) : Type 0 where
  pub app : (h n : Term) → g (App h n) ≡ App (g h) (g n)
  pub both : (m n : Term) → g (Both m n) ≡ Both (g m) (g n)
  pub access : (m : Term) → g (f m) ≡ f (g m)
  pub skip : g Skip ≡ Skip
  pub literal : (k w : ℕ) → g (Lit k w) ≡ Lit k w
  pub import : g (Import x) ≡ Import x
  pub wait : (s : ℕ) → g (Wait x s) ≡ Wait x s

module _ (i j : Imports) (g f : Term → Term) (x : Name) (is : GoesInto g f x) (types : import_type j x ≡ import_type i x) where
  -- the argument of a port, mapped
  mapped_part : (h n : Term) → g h ≡ h → g (App h n) ≡ App h (g n)
  mapped_part h n same = is.app h n ∙ ap (λ (v : Term). App v (g n)) same

  mapped_index : (s : ℕ) (n p : Term) → g (App (Wait x s) (Both n p)) ≡ App (Wait x s) (Both (g n) (g p))
  mapped_index s n p = mapped_part (Wait x s) (Both n p) (is.wait s) ∙ ap (λ (v : Term). App (Wait x s) v) (is.both n p)

  mapped_access : (s : ℕ) (n p : Term) → g (f (App (Wait x s) (Both n p))) ≡ f (App (Wait x s) (Both (g n) (g p)))
  mapped_access s n p = is.access (App (Wait x s) (Both n p)) ∙ ap f (mapped_index s n p)

  pub puts_mapped : (ask a e k : ℕ) (m t : Term) → AccessPuts i f ask a x e k m t → AccessPuts j f ask a x e k (g m) (g t)
  puts_mapped ask a e k m t (c, w, n, array, inl (em, ee, ek, et)) =
      (c, w, g n, types ∙ array, inl (ap g em ∙ mapped_part (Import x) n is.import, ee, ek, ap g et ∙ mapped_access 1 n n))
  puts_mapped ask a e k m t (c, w, n, array, inr (p, em, ep, ee, et)) = (
    c,
    w,
    g n,
    types ∙ array,
    inr (g p, ap g em ∙ mapped_index 0 n p, ap g ep ∙ is.literal k c, ee, ap g et ∙ mapped_access 1 n p),
  )

  pub reads_mapped : (e k : ℕ) (m t : Term) → AccessTakes i f ReadEnds x e k m t → AccessTakes j f ReadEnds x e k (g m) (g t)
  reads_mapped e k m t (c, w, n, p, array, em, inl (ee, ek, et)) =
      (c, w, g n, g p, types ∙ array, ap g em ∙ mapped_index 1 n p, inl (ee, ek, ap g et ∙ mapped_access 0 n n))
  reads_mapped e k m t (c, w, n, p, array, em, inr (ee, ek, et)) =
      (c, w, g n, g p, types ∙ array, ap g em ∙ mapped_index 1 n p, inr (ee, ek, ap g et ∙ is.literal k w))

  pub writes_mapped : (e k : ℕ) (m t : Term) → AccessTakes i f WriteEnds x e k m t → AccessTakes j f WriteEnds x e k (g m) (g t)
  writes_mapped e k m t (c, w, n, p, array, em, inl (ee, ek, et)) =
      (c, w, g n, g p, types ∙ array, ap g em ∙ mapped_index 1 n p, inl (ee, ek, ap g et ∙ mapped_access 0 n n))
  writes_mapped e k m t (c, w, n, p, array, em, inr (ee, ek, et)) =
      (c, w, g n, g p, types ∙ array, ap g em ∙ mapped_index 1 n p, inr (ee, ek, ap g et ∙ is.skip))

-- the same with other imports, where the port has one type
pub puts_as : (i j : Imports) (f : Term → Term) (ask a : ℕ) (x : Name) (e k : ℕ) (m t : Term)
    → ((c w : ℕ) → IsArrayImport i x c w → IsArrayImport j x c w) → AccessPuts i f ask a x e k m t → AccessPuts j f ask a x e k m t
puts_as i j f ask a x e k m t types (c, w, n, array, h) = (c, w, n, types c w array, h)

pub reads_as : (i j : Imports) (f : Term → Term) (x : Name) (e k : ℕ) (m t : Term)
    → ((c w : ℕ) → IsArrayImport i x c w → IsArrayImport j x c w) → AccessTakes i f ReadEnds x e k m t → AccessTakes j f ReadEnds x e k m t
reads_as i j f x e k m t types (c, w, n, p, array, em, h) = (c, w, n, p, types c w array, em, h)

pub writes_as : (i j : Imports) (f : Term → Term) (x : Name) (e k : ℕ) (m t : Term)
    → ((c w : ℕ) → IsArrayImport i x c w → IsArrayImport j x c w) → AccessTakes i f WriteEnds x e k m t → AccessTakes j f WriteEnds x e k m t
writes_as i j f x e k m t types (c, w, n, p, array, em, h) = (c, w, n, p, types c w array, em, h)

-- a property of terms that parts have, and that is put together of them
pub record IsWhole (i : Imports) (P : Term → Type 0) (f : Term → Term) (x : Name) : Type 0 where
  pub index : (h n : Term) → P (App h n) → P n
  pub left : (m n : Term) → P (Both m n) → P m
  pub right : (m n : Term) → P (Both m n) → P n
  pub app : (h n : Term) → P h → P n → P (App h n)
  pub both : (m n : Term) → P m → P n → P (Both m n)
  pub access : (m : Term) → P m → P (f m)
  pub value : (k w : ℕ) → P (Lit k w)
  pub skip : P Skip
  pub wait : (c w s : ℕ) → IsArrayImport i x c w → P (Wait x s)

module _ (i : Imports) (P : Term → Type 0) (f : Term → Term) (x : Name) (is : IsWhole i P f x) where
  whole : (c w s : ℕ) (n p : Term) → IsArrayImport i x c w → P n → P p → P (f (App (Wait x s) (Both n p)))
  whole c w s n p array h k = is.access (App (Wait x s) (Both n p)) (is.app (Wait x s) (Both n p) (is.wait c w s array) (is.both n p h k))

  pub puts_keep : (ask a e k : ℕ) (m t : Term) → AccessPuts i f ask a x e k m t → P m → P t
  puts_keep ask a e k m t (c, w, n, array, inl (em, ee, ek, et)) p =
      let q = is.index (Import x) n (subst P em p) in subst P (sym et) (whole c w 1 n n array q q)
  puts_keep ask a e k m t (c, w, n, array, inr (j, em, ej, ee, et)) p =
      let q = is.index (Wait x 0) (Both n j) (subst P em p) in
      subst P (sym et) (whole c w 1 n j array (is.left n j q) (is.right n j q))

  asked_again : (c w e k : ℕ) (m t n j : Term) → IsArrayImport i x c w → m ≡ App (Wait x 1) (Both n j) → t ≡ f (App (Wait x 0) (Both n n)) → P m → P t
  asked_again c w e k m t n j array em et p =
      let q = is.left n j (is.index (Wait x 1) (Both n j) (subst P em p)) in subst P (sym et) (whole c w 0 n n array q q)

  pub reads_keep : (e k : ℕ) (m t : Term) → AccessTakes i f ReadEnds x e k m t → P m → P t
  reads_keep e k m t (c, w, n, j, array, em, inl (ee, ek, et)) p = asked_again c w e k m t n j array em et p
  reads_keep e k m t (c, w, n, j, array, em, inr (ee, ek, et)) p = subst P (sym et) (is.value k w)

  pub writes_keep : (e k : ℕ) (m t : Term) → AccessTakes i f WriteEnds x e k m t → P m → P t
  writes_keep e k m t (c, w, n, j, array, em, inl (ee, ek, et)) p = asked_again c w e k m t n j array em et p
  writes_keep e k m t (c, w, n, j, array, em, inr (ee, ek, et)) p = subst P (sym et) is.skip

-- a map that can be undone at terms with F, where the port x has one type on both sides
pub record ComesFrom (i j : Imports) (g : Term → Term) (F : Term → Type 0) (x : Name) : Type 0 where
  pub app : (m h n : Term) → F m → g m ≡ App h n → (h' : Term) × (n' : Term) × (m ≡ App h' n') × (g h' ≡ h) × (g n' ≡ n) × F h' × F n'
  pub both : (m h n : Term) → F m → g m ≡ Both h n → (h' : Term) × (n' : Term) × (m ≡ Both h' n') × (g h' ≡ h) × (g n' ≡ n) × F h' × F n'
  pub literal : (m : Term) (k w : ℕ) → F m → g m ≡ Lit k w → m ≡ Lit k w
  pub import : (m : Term) → F m → g m ≡ Import x → (m ≡ Import x) × (import_type i x ≡ import_type j x)
  pub wait : (m : Term) (s : ℕ) → F m → g m ≡ Wait x s → (m ≡ Wait x s) × (import_type i x ≡ import_type j x)

module _ (i j : Imports) (g : Term → Term) (F : Term → Type 0) (f : Term → Term) (x : Name) (is : ComesFrom i j g F x) where
  -- the access of a port that waits
  index_back : (s : ℕ) (m n q : Term) → F m → g m ≡ App (Wait x s) (Both n q)
      → (import_type i x ≡ import_type j x) × ((n' : Term) × (q' : Term) × (m ≡ App (Wait x s) (Both n' q')) × (g q' ≡ q) × F q')
  index_back s m n q free em =
      let (h, p, outer, eh, ep, fh, fp) = is.app m (Wait x s) (Both n q) free em in
      let (port, types) = is.wait h s fh eh in
      let (u, v, inner, eu, ev, fu, fv) = is.both p n q fp ep in
      (types, (u, v, outer ∙ (ap (λ (y : Term). App y p) port ∙ ap (λ (y : Term). App (Wait x s) y) inner), ev, fv))

  pub puts_back : (ask a e k : ℕ) (m v : Term) → F m → AccessPuts j f ask a x e k (g m) v → (t : Term) × AccessPuts i f ask a x e k m t
  puts_back ask a e k m v free (c, w, n, array, inl (em, ee, ek, et)) =
      let (h, p, outer, eh, ep, fh, fp) = is.app m (Import x) n free em in
      let (port, types) = is.import h fh eh in
      (f (App (Wait x 1) (Both p p)), (c, w, p, types ∙ array, inl (outer ∙ ap (λ (u : Term). App u p) port, ee, ek, refl)))
  puts_back ask a e k m v free (c, w, n, array, inr (q, em, eq, ee, et)) =
      let (types, (u, p, outer, ep, fp)) = index_back 0 m n q free em in
      (f (App (Wait x 1) (Both u p)), (c, w, u, types ∙ array, inr (p, outer, is.literal p k c fp (ep ∙ eq), ee, refl)))

  pub reads_back : (e k : ℕ) (m v : Term) → F m → AccessTakes j f ReadEnds x e k (g m) v → (t : Term) × AccessTakes i f ReadEnds x e k m t
  reads_back e k m v free (c, w, n, q, array, em, inl (ee, ek, et)) =
      let (types, (u, p, outer, ep, fp)) = index_back 1 m n q free em in
      (f (App (Wait x 0) (Both u u)), (c, w, u, p, types ∙ array, outer, inl (ee, ek, refl)))
  reads_back e k m v free (c, w, n, q, array, em, inr (ee, ek, et)) =
      let (types, (u, p, outer, ep, fp)) = index_back 1 m n q free em in (Lit k w, (c, w, u, p, types ∙ array, outer, inr (ee, ek, refl)))

  pub writes_back : (e k : ℕ) (m v : Term) → F m → AccessTakes j f WriteEnds x e k (g m) v → (t : Term) × AccessTakes i f WriteEnds x e k m t
  writes_back e k m v free (c, w, n, q, array, em, inl (ee, ek, et)) =
      let (types, (u, p, outer, ep, fp)) = index_back 1 m n q free em in
      (f (App (Wait x 0) (Both u u)), (c, w, u, p, types ∙ array, outer, inl (ee, ek, refl)))
  writes_back e k m v free (c, w, n, q, array, em, inr (ee, ek, et)) =
      let (types, (u, p, outer, ep, fp)) = index_back 1 m n q free em in (Skip, (c, w, u, p, types ∙ array, outer, inr (ee, ek, refl)))
