-- The modules that the demo's sources are, and that the grammar derives them. Where a box of theirs lies counts for nothing.
use Rattle.std.proofs.Common.{◌≡◌, ◌+◌, ℕ, List, [], ◌∷◌, ◌++◌, None, refl, arith}
use denote.RawPtr.{null_ptr}
use Rattle.std.specs.Global.{Box}
use Rattle.gos_lex.specs.declared.word.Word.TheVariants as words
use Rattle.gos_lex.specs.declared.sign.Sign.TheVariants as signs
use Rattle.gos_lex.specs.Tokens.{Reading}
use Rattle.gos_types.specs.declared.types.Ty.{Ty}
use Rattle.gos_types.specs.declared.types.Ty.TheVariants as tys
use Rattle.gos_types.specs.Types as types
use Rattle.gos_syntax.specs.declared.terms.Term as program
use Rattle.gos_syntax.specs.declared.terms.Form.{Form}
use Rattle.gos_syntax.specs.declared.terms.Form.TheVariants as forms
use Rattle.gos_syntax.specs.Items.{Item, reading_at, span_of}
use Rattle.gos_syntax.specs.Trees as trees
use Rattle.gos_syntax.specs.Trees.{Tree}
use Rattle.gos_syntax.specs.Modules.{SeenImport, SeenModule}
use Rattle.gos_syntax.specs.ModuleTrees.{import_tree, module_tree}
use Rattle.gos_syntax.specs.Grammar as grammar
use Rattle.gos_syntax.specs.Grammar.{HasWord, HasSign, IsTerm}
use Rattle.gos_syntax.specs.ParsedModules.{IsImport, IsModule}
use Rattle.gos_tool.proofs.lemmas.demo.ScanLemmas.{AreRead}
use Rattle.gos_tool.proofs.lemmas.demo.SourceTexts.{import_f, fun_a, main_rest, twice_rest, pass_rest, pair_rest, main_read, twice_read, pass_read, pair_read, id_read}
use Rattle.gos_tool.proofs.lemmas.demo.RuleLemmas.{command, function, named, app, par, term, call, called}

abbrev a : List ℕ
a = 97 ∷ []

abbrev c : List ℕ
c = 99 ∷ []

abbrev f : List ℕ
f = 102 ∷ []

-- where a box lies
abbrev here : Box (Unit {0})
here = record { ptr = null_ptr; alloc = record { memory = record { seal = tt } }; value = tt }

-- `com -> com`
abbrev to_command : Ty
to_command = tys.Fun' here tys.Com here tys.Com

-- the imports
abbrev f_import : List Item → SeenImport
f_import items = record { name = f; name_span = span_of items 1 2; ty = to_command; ty_span = span_of items 3 6 }

abbrev c_import : List Item → SeenImport
c_import items = record { name = c; name_span = span_of items 7 8; ty = tys.Com; ty_span = span_of items 9 10 }

-- `x y`
abbrev call_of : List Item → ℕ → ℕ → ℕ → List ℕ → List ℕ → Form
call_of items i j k x y = forms.App' here (span_of items i j) (forms.Name x) here (span_of items j k) (forms.Name y)

-- the modules, by the items of the text
abbrev pub main_module : List Item → SeenModule
main_module items =
    record {
      imports = f_import items ∷ c_import items ∷ [];
      body = record { span = span_of items 11 13; form = call_of items 11 12 13 f c };
      result = tys.Com;
      result_span = span_of items 14 15;
    }

-- a function of `a`, whose colon has number `colon`
abbrev fun_module : List Item → List SeenImport → ℕ → ℕ → program.Term → SeenModule
fun_module items imports at colon body =
    record {
      imports = imports;
      body =
          record { span = span_of items at colon; form = forms.Fun' a tys.Com (span_of items (at + 3) (at + 4)) here body.span body.form };
      result = to_command;
      result_span = span_of items (colon + 1) (colon + 4);
    }

abbrev twice_body : List Item → program.Term
twice_body items =
    record {
      span = span_of items 12 17;
      form = forms.Seq' here (span_of items 12 14) (call_of items 12 13 14 f a) here (span_of items 15 17) (call_of items 15 16 17 f a);
    }

abbrev pub twice_module : List Item → SeenModule
twice_module items = fun_module items (f_import items ∷ []) 7 17 (twice_body items)

abbrev pass_body : List Item → program.Term
pass_body items = record { span = span_of items 12 14; form = call_of items 12 13 14 f a }

abbrev pub pass_module : List Item → SeenModule
pass_module items = fun_module items (f_import items ∷ []) 7 14 (pass_body items)

-- `(a, skip)`
abbrev pair_of : List Item → Form
pair_of items = forms.Pair' here (span_of items 16 17) (forms.Name a) here (span_of items 18 19) forms.Skip

abbrev pair_body : List Item → program.Term
pair_body items =
    record {
      span = span_of items 12 21;
      form =
          forms.App' here (span_of items 12 13) (forms.Name f) here (span_of items 14 20)
          (forms.Fst' here (span_of items 15 20) (pair_of items));
    }

abbrev pub pair_module : List Item → SeenModule
pair_module items = fun_module items (f_import items ∷ []) 7 21 (pair_body items)

abbrev pub id_module : List Item → SeenModule
id_module items = fun_module items [] 1 7 (record { span = span_of items 6 7; form = forms.Name a })

-- what is derived
f_imported : (items : List Item) (rest : List Reading) → AreRead items (import_f ++ rest) → IsImport items 0 6 (import_tree (f_import items))
f_imported items rest is =
    record {
      word = is 0;
      name = is 1;
      name_span = refl;
      colon = is 2;
      ty = function items 3 4 5 6 refl refl refl (is 3) (is 4) (is 5);
      ty_span = refl;
    }

pub main_derived : (items : List Item) → AreRead items main_read → IsModule items (module_tree (main_module items))
main_derived items is =
    record {
      end = 15;
      whole =
          record {
            exported = 10;
            imports = (
              6,
              f_imported items main_rest is,
              (10, record { word = is 6; name = is 7; name_span = refl; colon = is 8; ty = command items 9 10 refl (is 9); ty_span = refl }, refl),
            );
            word = is 10;
            colon = 13;
            body = term items 11 13 (call items 11 12 13 f c) (called items 11 12 13 f c refl refl (is 11) (is 12));
            sign = is 13;
            result = command items 14 15 refl (is 14);
            result_span = refl;
          };
      no_more = is 15;
    }

-- A function that imports `f`, where its body stands before the colon of this number, and `com -> com` after it at the end.
fun_derived : (items : List Item) (rest : List Reading) (colon : ℕ) (body : program.Term) → AreRead items (import_f ++ (fun_a ++ rest))
    → IsTerm items grammar.Term 12 colon (trees.tree_of body.form body.span) → HasSign items colon signs.Colon
    → HasWord items (colon + 1) words.Com → HasSign items (colon + 2) signs.Arrow → HasWord items (colon + 3) words.Com
    → reading_at items (colon + 4) ≡ None → IsModule items (module_tree (fun_module items (f_import items ∷ []) 7 colon body))
fun_derived items rest colon body is derived sign from arrow to no_more =
    record {
      end = colon + 4;
      whole =
          record {
            exported = 6;
            imports = (
              6,
              f_imported items (fun_a ++ rest) is,
              refl,
            );
            word = is 6;
            colon = colon;
            body =
                grammar.a_lambda 7 11 colon a types.Com (trees.tree_of body.form body.span) (is 7) (is 8) (is 9)
                (command items 10 11 refl (is 10)) (is 11) derived;
            sign = sign;
            result =
                function items (colon + 1) (colon + 2) (colon + 3) (colon + 4) (omega arith) (omega arith) (omega arith) from arrow to;
            result_span = refl;
          };
      no_more = no_more;
    }

pub twice_derived : (items : List Item) → AreRead items twice_read → IsModule items (module_tree (twice_module items))
twice_derived items is =
    fun_derived items twice_rest 17 (twice_body items) is
    (grammar.a_sequence 12 14 17 (call items 12 13 14 f a) (call items 15 16 17 f a)
    (par items 12 14 (call items 12 13 14 f a) (called items 12 13 14 f a refl refl (is 12) (is 13))) (is 14)
    (term items 15 17 (call items 15 16 17 f a) (called items 15 16 17 f a refl refl (is 15) (is 16))))
    (is 17) (is 18) (is 19) (is 20) (is 21)

pub pass_derived : (items : List Item) → AreRead items pass_read → IsModule items (module_tree (pass_module items))
pass_derived items is =
    fun_derived items pass_rest 14 (pass_body items) is
    (term items 12 14 (call items 12 13 14 f a) (called items 12 13 14 f a refl refl (is 12) (is 13))) (is 14) (is 15) (is 16) (is 17) (is 18)

-- `f (fst (a, skip))`
abbrev both : List Item → Tree
both items = trees.Both (span_of items 15 20) (trees.Use (span_of items 16 17) a) (trees.Skip (span_of items 18 19))

abbrev pair_tree : List Item → Tree
pair_tree items = trees.App (span_of items 12 21) (trees.Use (span_of items 12 13) f) (trees.Fst (span_of items 14 20) (both items))

first_derived : (items : List Item) → AreRead items pair_read → IsTerm items grammar.App 14 20 (trees.Fst (span_of items 14 20) (both items))
first_derived items is =
    let skip : Tree = trees.Skip (span_of items 18 19) in
    grammar.an_operand 14 20 (trees.Fst (span_of items 14 20) (both items))
    (grammar.a_first_part 14 20 (both items) (is 14)
    (grammar.an_atom 15 20 (both items)
    (grammar.a_pair 15 17 19 (trees.Use (span_of items 16 17) a) skip (is 15)
    (term items 16 17 (trees.Use (span_of items 16 17) a) (app items 16 17 (trees.Use (span_of items 16 17) a) (named items 16 17 a refl (is 16)))) (is 17)
    (term items 18 19 skip (app items 18 19 skip (grammar.skipping 18 (is 18)))) (is 19))))

pair_tree_derived : (items : List Item) → AreRead items pair_read → IsTerm items grammar.App 12 21 (pair_tree items)
pair_tree_derived items is =
    let first : Tree = trees.Fst (span_of items 14 20) (both items) in
    grammar.one_more_operand 12 13 21 (trees.Use (span_of items 12 13) f) first
    (app items 12 13 (trees.Use (span_of items 12 13) f) (named items 12 13 f refl (is 12)))
    (grammar.an_atom 13 21 first (grammar.in_brackets 13 20 first (is 13) (term items 14 20 first (first_derived items is)) (is 20)))

pub pair_derived : (items : List Item) → AreRead items pair_read → IsModule items (module_tree (pair_module items))
pair_derived items is =
    fun_derived items pair_rest 21 (pair_body items) is (term items 12 21 (pair_tree items) (pair_tree_derived items is))
    (is 21) (is 22) (is 23) (is 24) (is 25)

pub id_derived : (items : List Item) → AreRead items id_read → IsModule items (module_tree (id_module items))
id_derived items is =
    record {
      end = 11;
      whole =
          record {
            exported = 0;
            imports = refl;
            word = is 0;
            colon = 7;
            body =
                grammar.a_lambda 1 5 7 a types.Com (trees.Use (span_of items 6 7) a) (is 1) (is 2) (is 3) (command items 4 5 refl (is 4)) (is 5)
                (term items 6 7 (trees.Use (span_of items 6 7) a) (app items 6 7 (trees.Use (span_of items 6 7) a) (named items 6 7 a refl (is 6))));
            sign = is 7;
            result = function items 8 9 10 11 refl refl refl (is 8) (is 9) (is 10);
            result_span = refl;
          };
      no_more = is 11;
    }
