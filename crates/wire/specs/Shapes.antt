-- How a part of a JSON value is read. A part has a value, or a first wrong part in it, which is
-- told by its path from there: a JSON pointer (RFC 6901). An object is looked at before its
-- members, a list before its items, and each in order.
use Rattle.std.specs.Prelude.{ℕ, ◌+◌, Bool, Option, None, Some, Result, Ok, Err, List, [], ◌∷◌, ◌++◌, decimal, nat_lt, ◌^◌, if◌then◌else◌}
use Rattle.items.specs.Gives.{◌>>=◌, err_map}
use Rattle.serde_json.specs.Data.{Data, Items, no_items, item}
use Rattle.serde_json.specs.Find.{get_member, as_array, as_bool, as_number, as_object, as_str, as_u64}

-- a JSON pointer, as its bytes; [] is the part itself
abbrev pub Path : Type 0
Path = List ℕ

-- how a part is read: what it stands for, or the path of the first wrong part in it
abbrev pub Reading : Type 0 → Type 0
Reading A = Data → Result A Path

-- the path of the member of this name
abbrev pub member_path : List ℕ → Path
member_path key = 47 ∷ key

-- the path of the item at this place of a list, from 0
abbrev pub item_path : ℕ → Path
item_path place = 47 ∷ decimal place

-- what was read of a part, told from what the part stands in
abbrev pub under : {A : Type 0} → Path → Result A Path → Result A Path
under step read = err_map (λ path. step ++ path) read

-- what is there, else the part itself is wrong
abbrev pub or_wrong : {A : Type 0} → Option A → Result A Path
or_wrong (Some x) = Ok x
or_wrong None = Err []

-- a member of an object: an absent one is wrong at its own path
abbrev pub or_absent : List ℕ → Option Data → Result Data Path
or_absent key (Some d) = Ok d
or_absent key None = Err (member_path key)

-- the member of this name of an object; what is no object is wrong itself
abbrev pub member_of : List ℕ → Reading Data
member_of key d = or_wrong (as_object d) >>= λ members. or_absent key (get_member key members)

-- what a member stands for
abbrev pub field : {A : Type 0} → List ℕ → Reading A → Reading A
field key reads d = member_of key d >>= λ value. under (member_path key) (reads value)

-- the items of a list, from a place on
abbrev pub items_from : {A : Type 0} → Reading A → ℕ → Items → Result (List A) Path
items_from reads place no_items = Ok []
items_from reads place (item d ds) = under (item_path place) (reads d) >>= λ x. items_from reads
    (place + 1) ds >>= λ xs. Ok (x ∷ xs)

-- a list, as what its items stand for, in order; what is no list is wrong itself
abbrev pub list : {A : Type 0} → Reading A → Reading (List A)
list reads d = or_wrong (as_array d) >>= λ ds. items_from reads 0 ds

-- a text, as its bytes
abbrev pub text : Reading (List ℕ)
text d = or_wrong (as_str d)

-- a truth value, `true` or `false`
abbrev pub boolean : Reading Bool
boolean d = or_wrong (as_bool d)

-- a number that fits 32 bits
abbrev pub if_small : ℕ → Option ℕ
if_small n = if nat_lt n (2 ^ 32) then Some n else None

-- a whole number that is not negative and fits 64 bits
abbrev pub natural : Reading ℕ
natural d = or_wrong (as_number d) >>= λ n. or_wrong (as_u64 n)

-- a whole number that is not negative and fits 32 bits
abbrev pub small : Reading ℕ
small d = natural d >>= λ n. or_wrong (if_small n)
