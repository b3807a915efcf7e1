-- Facts about names, processors and factors while they are read.
use Rattle.std.specs.Prelude.{◌≡◌, ◌≤◌, ℕ, List, length, slice_get, Option, Some, None, IsTrue}
use Rattle.scram_types.specs.declared.specification.Proc.{Proc}
use Rattle.scram_types.specs.declared.specification.Factor.{Factor}
use Rattle.scram_types.specs.Specification.{IsProc, HasLength}
use Rattle.scram_types.specs.Names.{is_name}
use Rattle.scram_doc.specs.Lists.{AllAfter}
use Rattle.spec_reading.specs.Names.{name_of_proc, name_of_factor}
use Rattle.spec_reading.specs.Numbering.{itself, index_named}

-- The text is a valid name, and no item of the list has this name.
pub record IsFresh {A : Type 0} (name : A → List ℕ) (items : List A) (text : List ℕ) : Type 0 where
  pub new : index_named name items text ≡ None
  pub spelled : IsTrue (is_name text)

-- A number is the result of `find` for some text.
pub record IsListed (find : List ℕ → Option ℕ) (number : ℕ) : Type 0 where
  pub text : List ℕ
  pub there : find text ≡ Some number

-- A processor is valid, and no processor before it has its name.
pub record IsNewProc (done : List Proc) (proc : Proc) : Type 0 where
  pub name : IsFresh name_of_proc done proc.name
  pub is : IsProc proc

-- A name is valid and is not among the names before it.
abbrev pub IsNewName : List (List ℕ) → List ℕ → Type 0
IsNewName done name = IsFresh itself done name

-- A factor has a name that no factor before it has, and 2 to 4 values with different names.
pub record IsNewFactor (done : List Factor) (factor : Factor) : Type 0 where
  pub name : IsFresh name_of_factor done factor.name
  pub count : HasLength 2 4 factor.values
  pub values : AllAfter IsNewName factor.values

-- Each factor has at most four values.
abbrev pub FewValues : List Factor → Type 0
FewValues factors = (f : ℕ) (factor : Factor) → slice_get factors f ≡ Some factor → length factor.values ≤ 4
