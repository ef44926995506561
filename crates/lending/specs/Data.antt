-- Plain data types as a walk by hand meets them: what the laws of a declared struct or enum come to, under one record for both.
-- The laws under a model take `Logic`. Assumes nothing else.
use Rattle.std.specs.Prelude.{◌≡◌, refl, List, [], ◌∷◌}
use seplogic.Ra.Ura.{Ura}
use mir.Syntax.{Ty, Width, ty_unit, ty_int}
use mir.Val.{Val, vunit, vint}
use base.Logic.{ent, sep, emp, via, comm∗, mono_r, emp∗, id⊢}
use types.Logic.{Logic, sem}
use denote.RattleType.{RattleType, Denots, Valss, owns}
use denote.Laws.{Is, Ises, Tells, Tellss, Spells, Lawful, Makes}
use denote.Memory.{lone}
use denote.Plain.{UInt, uint_Tells, uint_Lawful, uint_Makes, Nothing, Nothing-Tells, Nothing-Lawful, Nothing-Makes}
use denote.Struct.Struct.{Plains}
use denote.Struct.Declared as structs
use denote.Struct.Laws as struct_laws
use denote.Enum.Enum.{Few, Plainss}
use denote.Enum.Declared as enums
use denote.Enum.Laws as enum_laws

-- a type of plain data: its one machine value is a function of what it denotes, and it owns only facts
pub record Data : Type 2 where
  -- the row, and its one MIR type
  pub row : RattleType
  pub mir : Ty
  pub one : row.mir ≡ mir ∷ []
  -- the machine value, and that the relation tells it
  pub val : row.Denot → Val
  pub tells : Tells row (Is row) (λ x. val x ∷ [])
  -- the machine value has the MIR type, and what is owned is had for nothing
  pub lawful : {M : Type 1} {𝓤 : Ura M} (𝓛 : Logic 𝓤) → Lawful 𝓛 row
  pub makes : {M : Type 1} {𝓤 : Ura M} (𝓛 : Logic 𝓤) → Makes 𝓛 row (Is row)

-- a declared struct
abbrev pub of_struct : (T : structs.Declared) → struct_laws.Laws T → Plains (structs.fields T) → Data
of_struct T L pl = record {
  row = structs.row T;
  mir = lone (structs.row T).mir;
  one = refl;
  val = struct_laws.val T L;
  tells = struct_laws.tells T L;
  lawful = λ 𝓛. struct_laws.lawful T L 𝓛;
  makes = λ 𝓛. struct_laws.makes T pl 𝓛;
}

-- a declared enum
abbrev pub of_enum : (T : enums.Declared) → enum_laws.Laws T → Plainss (enums.variants T) → Few (enums.shape T) → Data
of_enum T L pl few = record {
  row = enums.row T;
  mir = lone (enums.row T).mir;
  one = refl;
  val = enum_laws.val T L;
  tells = enum_laws.tells T L;
  lawful = λ 𝓛. enum_laws.lawful T L 𝓛 few;
  makes = λ 𝓛. enum_laws.makes T pl 𝓛;
}

-- the numbers of a width
abbrev pub of_width : Width → Data
of_width w = record {
  row = UInt w;
  mir = ty_int w;
  one = refl;
  val = vint w;
  tells = uint_Tells w;
  lawful = λ 𝓛. uint_Lawful 𝓛 w;
  makes = λ 𝓛. uint_Makes 𝓛 w;
}

-- the type of one value, which a function with no result returns
abbrev pub no_data : Data
no_data = record {
  row = Nothing;
  mir = ty_unit;
  one = refl;
  val = λ _. vunit;
  tells = Nothing-Tells;
  lawful = Nothing-Lawful;
  makes = Nothing-Makes;
}

-- what whoever holds a value knows of it
abbrev pub Fits : (D : Data) → D.row.Denot → Type 0
Fits D x = Is D.row x (D.val x ∷ [])

-- the rows of a list of types
abbrev pub rows : List Data → List RattleType
rows [] = []
rows (D ∷ Ds) = D.row ∷ rows Ds

-- the machine values of a list of values
abbrev pub valuess : (Ds : List Data) → Denots (rows Ds) → Valss (rows Ds)
valuess [] a = tt
valuess (D ∷ Ds) a = (D.val a.0 ∷ [], valuess Ds a.1)

-- how they are spelled
abbrev pub spelled : (Ds : List Data) → Spells (rows Ds)
spelled [] = tt
spelled (D ∷ Ds) = ((λ x. D.val x ∷ []), spelled Ds)

-- that the relations tell them
abbrev pub told : (Ds : List Data) → Tellss (rows Ds) (Ises (rows Ds)) (spelled Ds)
told [] = tt
told (D ∷ Ds) = (D.tells, told Ds)

-- what whoever holds a list of values knows of them
abbrev pub AllFit : (Ds : List Data) → Denots (rows Ds) → Type 0
AllFit [] a = Unit {0}
AllFit (D ∷ Ds) a = Fits D a.0 × AllFit Ds a.1

-- what a list of values owns is had for nothing
pub all_made : {M : Type 1} {𝓤 : Ura M} (𝓛 : Logic 𝓤) (Ds : List Data) (a : Denots (rows Ds)) → AllFit Ds a → ent 𝓤 (emp 𝓤) (sem 𝓛 (owns (rows Ds) a (valuess Ds a)))
all_made {𝓤 = 𝓤} 𝓛 [] a gs = id⊢ 𝓤 (emp 𝓤)
all_made {𝓤 = 𝓤} 𝓛 (D ∷ Ds) a gs =
    let P = sem 𝓛 (D.row.own_val a.0 (D.val a.0 ∷ [])) in
    via 𝓤 P (D.makes 𝓛 a.0 _ gs.0) (via 𝓤 (sep 𝓤 (emp 𝓤) P) (emp∗ 𝓤 P) (via 𝓤 (sep 𝓤 P (emp 𝓤)) (comm∗ 𝓤 (emp 𝓤) P) (mono_r 𝓤 P (all_made 𝓛 Ds a.1 gs.1))))
