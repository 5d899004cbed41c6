use Rattle.std.proofs.Common.{◌≡◌, ◌+◌, ◌++◌, [], ◌∷◌, true, false, map, drop, length, refl, sym, ap, ◌∙◌, arith}
use Rattle.std.proofs.lemmas.List.{map-append, length_push}
use Rattle.std.specs.List.{list_any}
use Rattle.std.specs.Str.{bytes_eq}
use Rattle.js_doc.specs.Seen.{value_of}
use Rattle.js_doc.specs.Value.{text}
use Rattle.js_assert.specs.ArgumentShape.{are_new_types, is_type_name}
use Rattle.js_assert.specs.Types.{type_name}
use Rattle.js_assert.specs.contracts.instance_type.InstanceTypePartialEq.TheImpl.{ghosts}
use Rattle.js_assert.specs.declared.instance_type.InstanceType.{InstanceType}
use Rattle.js_assert.specs.declared.instance_type.InstanceType.TheVariants.{Null, Boolean, Object, Array, Number}
use Rattle.js_assert.specs.declared.instance_type.InstanceType.TheVariants.{Text, Integer}
use Rattle.js_assert.proofs.Names.{read_more}
use Rattle.js_assert.proofs.TypeShapes.{types_more, refused_twice, named_among}
use Rattle.js_assert.proofs.argument_shape.distinct_types.Goals as goal

-- two types are equal exactly if their names are
same_type : (t u : InstanceType) → ghosts.eq t u ≡ bytes_eq (type_name u) (type_name t)
same_type Null Null = refl
same_type Null _ = refl
same_type Boolean Boolean = refl
same_type Boolean _ = refl
same_type Object Object = refl
same_type Object _ = refl
same_type Array Array = refl
same_type Array _ = refl
same_type Number Number = refl
same_type Number _ = refl
same_type Text Text = refl
same_type Text _ = refl
same_type Integer Integer = refl
same_type Integer _ = refl

pub returns-then-contains-clause-refused : goal.returns-then-contains-clause-refused
returns-then-contains-clause-refused c =
    let l = c.loop-doc in
    let one = c.in-Some.one in
    let name = c.in-Text.name in
    let named : type_name one ≡ name = c.in-Some.ensures.some ∙ c.as_str.ensures in
    let among : list_any (bytes_eq name) (map type_name l.types.items) ≡ c.contains.result =
    named_among (λ t. ghosts.eq t one) one name l.types.items (λ t. same_type t one) named
    ∙ ap (list_any (λ t. ghosts.eq t one)) (sym c.as_slice.ensures.value) ∙ sym c.contains.ensures.value in
    refused_twice (are_new_types [] (map value_of c.args.docs.now)) (map type_name l.types.items) c.args.docs.now
    l.doc-index c.doc-item.result name l.invariant.rest c.loop-doc-test.true c.doc-item.is
    (ap value_of c.in-Text.is) (among ∙ c.if-contains.true)

pub loop-doc-preserved : goal.loop-doc-preserved
loop-doc-preserved c =
    let l = c.loop-doc in
    let ds = c.args.docs.now in
    let one = c.in-Some.one in
    let name = c.in-Text.name in
    let names = map type_name l.types.items in
    let named : type_name one ≡ name = c.in-Some.ensures.some ∙ c.as_str.ensures in
    let known : is_type_name name ≡ true = ap is_type_name (sym c.as_str.ensures) ∙ sym c.in-Some.ensures.exact in
    let among : list_any (bytes_eq name) names ≡ c.contains.result =
    named_among (λ t. ghosts.eq t one) one name l.types.items (λ t. same_type t one) named
    ∙ ap (list_any (λ t. ghosts.eq t one)) (sym c.as_slice.ensures.value) ∙ sym c.contains.ensures.value in
    let fresh : list_any (bytes_eq name) names ≡ false = among ∙ c.if-contains.false in
    let pushed : map type_name c.push_reserved.new.self.items ≡ names ++ name ∷ [] =
    ap (map type_name) c.push_reserved.ensures.items ∙ map-append type_name l.types.items (one ∷ [])
    ∙ ap (λ n. names ++ n ∷ []) named in
    record {
      read = read_more names ds l.doc-index c.doc-item.result name c.loop-doc-test.true c.doc-item.is
          (ap value_of c.in-Text.is) l.invariant.read ∙ ap (map text) (sym pushed);
      rest = l.invariant.rest ∙ types_more names ds l.doc-index c.doc-item.result name c.loop-doc-test.true
          c.doc-item.is (ap value_of c.in-Text.is) known fresh
          ∙ ap (λ ns. are_new_types ns (map value_of (drop (l.doc-index + 1) ds))) (sym pushed);
      count = ap length c.push_reserved.ensures.items ∙ length_push l.types.items one
          ∙ ap (λ n. n + 1) l.invariant.count;
      room = omega (arith, l.invariant.room, c.push_reserved.ensures.capacity);
    }
