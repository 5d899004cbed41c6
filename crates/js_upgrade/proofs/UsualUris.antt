-- The URIs that most schemas of a dialect have name the dialect, wherever their `$schema` counts.
use Rattle.std.proofs.Common.{◌≡◌, [], ◌∷◌, ◌++◌, Bool, true, false, Option, Some, None, cond, codes, refl, sym, ap}
use Rattle.std.proofs.Common.{◌∙◌}
use Rattle.std.specs.Prelude.{option_and_then, option_map, unwrap_or}
use Rattle.js_doc.specs.Value.{Value, null, truth, whole, text, list, object, Named, Text}
use Rattle.js_doc.proofs.TokenLookup.{is_text-sound}
use Rattle.js_upgrade.proofs.ByCases.{by_dialect}
use Rattle.js_upgrade.proofs.Prefixes.{after-prefixed}
use Rattle.js_upgrade.specs.Dialect.{after_prefix, dialect_named, version_named}
use Rattle.js_upgrade.specs.Upgrade.{dialect_in, dialect_or, identifies}
use Rattle.js_upgrade.specs.code.UsualUri.{has_usual_uri, is_no_fragment, usual_path}
use Rattle.js_upgrade.specs.declared.dialect.Dialect.{Dialect}

-- ---- with either scheme, and with either end

plain_named : (d : Dialect) → dialect_named (codes "http" ++ (usual_path d ++ [])) ≡ Some d
unfolding version_named
plain_named d =
    by_dialect (λ e. dialect_named (codes "http" ++ (usual_path e ++ [])) ≡ Some e) refl refl refl refl refl
    refl d

plain_marked : (d : Dialect) → dialect_named (codes "http" ++ (usual_path d ++ codes "#")) ≡ Some d
unfolding version_named
plain_marked d =
    by_dialect (λ e. dialect_named (codes "http" ++ (usual_path e ++ codes "#")) ≡ Some e) refl refl refl refl refl
    refl d

secure_named : (d : Dialect) → dialect_named (codes "https" ++ (usual_path d ++ [])) ≡ Some d
unfolding version_named
secure_named d =
    by_dialect (λ e. dialect_named (codes "https" ++ (usual_path e ++ [])) ≡ Some e) refl refl refl refl refl
    refl d

secure_marked : (d : Dialect) → dialect_named (codes "https" ++ (usual_path d ++ codes "#")) ≡ Some d
unfolding version_named
secure_marked d =
    by_dialect (λ e. dialect_named (codes "https" ++ (usual_path e ++ codes "#")) ≡ Some e) refl refl refl refl refl
    refl d

-- ---- read from the front

abbrev IsNamed : Dialect → Text → Type 0
IsNamed d uri = dialect_named uri ≡ Some d

by_end : (d : Dialect) (scheme end : Text) → IsNamed d (scheme ++ (usual_path d ++ []))
    → IsNamed d (scheme ++ (usual_path d ++ codes "#")) → is_no_fragment (Some end) ≡ true
    → IsNamed d (scheme ++ (usual_path d ++ end))
by_end d scheme [] bare marked is = bare
by_end d scheme (b ∷ bs) bare marked is =
    ap (λ e. dialect_named (scheme ++ (usual_path d ++ e))) (is_text-sound (b ∷ bs) (codes "#") is) ∙ marked

by_path : (d : Dialect) (scheme path : Text) (found : Option Text) → after_prefix (usual_path d) path ≡ found
    → IsNamed d (scheme ++ (usual_path d ++ [])) → IsNamed d (scheme ++ (usual_path d ++ codes "#"))
    → is_no_fragment found ≡ true → IsNamed d (scheme ++ path)
by_path d scheme path None is bare marked ends = absurd (cc)
by_path d scheme path (Some end) is bare marked ends =
    ap (λ t. dialect_named (scheme ++ t)) (after-prefixed (usual_path d) path end is)
    ∙ by_end d scheme end bare marked ends

by_scheme : (d : Dialect) (rest : Text) (found : Option Text) → after_prefix (codes "s") rest ≡ found
    → is_no_fragment (after_prefix (usual_path d) (unwrap_or found rest)) ≡ true
    → IsNamed d (codes "http" ++ rest)
by_scheme d rest None is ends =
    by_path d (codes "http") rest (after_prefix (usual_path d) rest) refl (plain_named d) (plain_marked d) ends
by_scheme d rest (Some path) is ends =
    ap (λ t. dialect_named (codes "http" ++ t)) (after-prefixed (codes "s") rest path is)
    ∙ by_path d (codes "https") path (after_prefix (usual_path d) path) refl (secure_named d) (secure_marked d) ends

by_start : (d : Dialect) (uri : Text) (found : Option Text) → after_prefix (codes "http") uri ≡ found
    → is_no_fragment (option_and_then (after_prefix (usual_path d))
    (option_map (λ rest. unwrap_or (after_prefix (codes "s") rest) rest) found)) ≡ true
    → IsNamed d uri
by_start d uri None is ends = absurd (cc)
by_start d uri (Some rest) is ends =
    ap dialect_named (after-prefixed (codes "http") uri rest is)
    ∙ by_scheme d rest (after_prefix (codes "s") rest) refl ends

pub names_it : (d : Dialect) (v : Value) → has_usual_uri d v ≡ true → dialect_in v ≡ Some d
names_it d (text uri) is = by_start d uri (after_prefix (codes "http") uri) refl is
names_it d null same = absurd (cc)
names_it d (truth b) same = absurd (cc)
names_it d (whole z) same = absurd (cc)
names_it d (list vs) same = absurd (cc)
names_it d (object ms) same = absurd (cc)

either : {A : Type 0} (b : Bool) (a : A) → cond b a a ≡ a
either true a = refl
either false a = refl

-- it is the same whether it counts
pub same_dialect : (d : Dialect) (siblings : Named) (v : Value) → has_usual_uri d v ≡ true
    → d ≡ dialect_or d siblings (dialect_in v)
same_dialect d siblings v same =
    sym (ap (dialect_or d siblings) (names_it d v same) ∙ either (identifies d siblings) d)
