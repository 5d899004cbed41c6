-- The output formats as JSON values: the four of the standard (JSON Schema Core, section 12.4; the members of a node
-- are those of 12.3), and merged, which is this project's own.
use Rattle.std.specs.Prelude.{ℕ, pos, Bool, true, false, not, List, [], ◌∷◌, ◌++◌, map, find, Option, Some, None, codes}
use Rattle.std.specs.Prelude.{bytes_eq}
use Rattle.js_doc.specs.Value.{Value, truth, whole, text, list, object, items, members}
use Rattle.js_tree.specs.Forest.{Forest, empty, tree}
use Rattle.js_tree.specs.declared.formats.Format.{Format}
use Rattle.js_tree.specs.declared.formats.Format.TheVariants.{Flag, Basic, Detailed, Merged, Verbose}
use Rattle.js_tree.specs.declared.formats.Layout.{Layout}
use Rattle.js_tree.specs.declared.formats.Layout.TheVariants.{Verdict, Units, Nodes}
use Rattle.js_tree.specs.MergedResult.{merged}
use Rattle.js_tree.specs.Note as note
use Rattle.js_tree.specs.OutputUnit.{OutputUnit}
use Rattle.js_tree.specs.Result.{ResultTree, kept, pruned, units}

-- ---- notes

abbrev pub error_value : note.Note → Option Value
error_value (note.error reason) = Some (text reason)
error_value _ = None

abbrev pub annotation_value : note.Note → Option Value
annotation_value note.silent = None
annotation_value (note.error reason) = None
annotation_value (note.value value) = Some value
annotation_value (note.names names) = Some (list (items (map text names)))
annotation_value (note.index index) = Some (whole (pos index))
annotation_value (note.indexes indexes) = Some (list (items (map (λ index. whole (pos index)) indexes)))
annotation_value note.truly = Some (truth true)

-- ---- a node

-- the member, if there is a value
abbrev pub member_of_some : List ℕ → Option Value → List (List ℕ × Value)
member_of_some name None = []
member_of_some name (Some value) = (name, value) ∷ []

-- the value, if the test holds
abbrev pub value_if : Bool → Option Value → Option Value
value_if true value = value
value_if false value = None

-- the values as an array, if there are any
abbrev pub array_of_some : List Value → Option Value
array_of_some [] = None
array_of_some (v ∷ vs) = Some (list (items (v ∷ vs)))

-- a node with the values of its children, which are its `annotations` if it passes, and its `errors` if it fails
abbrev pub node_value : OutputUnit → List Value → Value
node_value u children =
    object (members (
    (codes "absoluteKeywordLocation", text u.absolute)
    ∷ (member_of_some (codes "annotation") (annotation_value u.note)
    ++ (member_of_some (codes "annotations") (value_if u.valid (array_of_some children))
    ++ (member_of_some (codes "error") (error_value u.note)
    ++ (member_of_some (codes "errors") (value_if (not u.valid) (array_of_some children))
    ++ ((codes "instanceLocation", text u.instance) ∷ (codes "keywordLocation", text u.keyword)
    ∷ (codes "valid", truth u.valid) ∷ [])))))
    ))

abbrev pub node_values : Forest OutputUnit → List Value
node_values empty = []
node_values (tree u below after) = node_value u (node_values below) ∷ node_values after

-- ---- the formats

-- the root node of the whole tree
abbrev pub verbose : ResultTree → Value
verbose t = node_value t.root (node_values t.below)

-- the verdict alone
abbrev pub flag : Bool → Value
flag valid = object (members ((codes "valid", truth valid) ∷ []))

abbrev pub list_name : Bool → List ℕ
list_name true = codes "annotations"
list_name false = codes "errors"

-- the verdict, and an array of the units, each without children; the array is there even if it is empty
abbrev pub unit_list : ResultTree → Value
unit_list t = object (members ((list_name t.root.valid, list (items (map (λ u. node_value u []) (units t))))
    ∷ (codes "valid", truth t.root.valid) ∷ []))

-- a format lays out the tree that it shows: its verdict alone, the noted units in a list, or a node in a node
abbrev pub layout : Format → Layout
layout Flag = Verdict
layout Basic = Units
layout Detailed = Nodes
layout Merged = Nodes
layout Verbose = Nodes

abbrev pub laid_out : Layout → ResultTree → Value
laid_out Verdict t = flag t.root.valid
laid_out Units t = unit_list t
laid_out Nodes t = verbose t

-- what a format shows, given the tree that it shows
abbrev pub shown : Format → ResultTree → Value
shown format t = laid_out (layout format) t

-- that tree, made from the whole one: pruned for basic, condensed for detailed, merged for merged
abbrev pub tree_of_format : Format → ResultTree → ResultTree
tree_of_format Flag t = t
tree_of_format Basic t = pruned t
tree_of_format Detailed t = kept (pruned t)
tree_of_format Merged t = merged (pruned t)
tree_of_format Verbose t = t

abbrev pub form : Format → ResultTree → Value
form format t = shown format (tree_of_format format t)

-- ---- their names, as arguments have them, and their numbers, as C has them: 0 for the first of the list

abbrev pub formats : List Format
formats = Flag ∷ Basic ∷ Detailed ∷ Verbose ∷ Merged ∷ []

abbrev pub format_name : Format → List ℕ
format_name Flag = codes "flag"
format_name Basic = codes "basic"
format_name Detailed = codes "detailed"
format_name Verbose = codes "verbose"
format_name Merged = codes "merged"

abbrev pub format_named : List ℕ → Option Format
format_named name = find (λ format. bytes_eq name (format_name format)) formats
