-- The names that lines give, once there is a line more.
use Rattle.std.specs.Prelude.{◌≡◌, ◌||◌, Bool, true, false, List, [], ◌∷◌, ◌++◌}
use Rattle.std.specs.List.{list_any}
use Rattle.std.specs.Str.{bytes_eq}
use Rattle.std.proofs.Common.{refl, sym, ap, ◌∙◌}
use Rattle.std.proofs.lemmas.List.Folds.{list_any-append}
use Rattle.gos_lex.specs.Lines.{Word}
use Rattle.gos_link.specs.BuildFile.{is_instance, is_source, is_no_source}
use Rattle.gos_link.specs.declared.said.Said.{Said}
use Rattle.gos_link.specs.declared.said.Item.{Item}
use Rattle.gos_link.specs.declared.lines.Given.{Given}
use Rattle.gos_link.specs.inner.Given.{AreGiven}

-- whether one of the lines passes the test, once there is a line more
any_more : (test : Said → Bool) (items : List Item) (item : Item) (had has : Bool) → had ≡ list_any (λ i. test i.said) items → has ≡ (had || test item.said)
    → has ≡ list_any (λ i. test i.said) (items ++ item ∷ [])
any_more test items item had has before is =
    is ∙ (ap (λ (b : Bool). b || test item.said) before
    ∙ (ap (λ (b : Bool). list_any (λ i. test i.said) items || b) (alone (test item.said)) ∙ sym (list_any-append (λ i. test i.said) items (item ∷ []))))
  where
    alone : (b : Bool) → b ≡ (b || false)
    alone true = refl
    alone false = refl

pub given_more : (items : List Item) (item : Item) (old new : Given) → AreGiven items old
    → ((name : Word) → list_any (bytes_eq name) new.instances.keys ≡ (list_any (bytes_eq name) old.instances.keys || is_instance name item.said))
    → ((file : Word) → list_any (bytes_eq file) new.sources.keys ≡ (list_any (bytes_eq file) old.sources.keys || is_source file item.said))
    → ((file : Word) → list_any (bytes_eq file) new.others.keys ≡ (list_any (bytes_eq file) old.others.keys || is_no_source file item.said))
    → AreGiven (items ++ item ∷ []) new
given_more items item old new known instances sources others =
    record {
      instances = λ name. any_more (is_instance name) items item _ _ (known.instances name) (instances name);
      sources = λ file. any_more (is_source file) items item _ _ (known.sources file) (sources file);
      others = λ file. any_more (is_no_source file) items item _ _ (known.others file) (others file);
    }
