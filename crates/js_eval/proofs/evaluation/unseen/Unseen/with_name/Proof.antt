use Rattle.std.specs.Prelude.{◌++◌}
use Rattle.js_doc.specs.Pointer.{escape}
use lib.ListN.{length}
use mir.Syntax.{w8, w64}
use mir.Val.{Fits}
use denote.Slice.{ShrSlice, slice_val, shr_slice_vals, shr_slice_Tells}
use denote.Plain.{UInt}
use denote.Such.{such_Tells}
use denote.Text.{Utf8, StrRefOf}
use Rattle.js_eval.proofs.UnseenWalks.{refl, [], ◌∷◌, vstruct, vnil, emp, via, fst∗, tables, ‵, raw, ◌$◌, ◌∵◌, !, qed}
use Rattle.js_eval.proofs.UnseenWalks.{move, suffices, done, no_more, returns, enter, agg, alloc_all, pass_all}
use Rattle.js_eval.proofs.UnseenWalks.{free_all, look_at, sets, owns, pure_i, types_at, alive, says, Stays, walk_of}
use Rattle.js_eval.proofs.UnseenWalks.{ends_at, proved, named, vptr, yes, shr_vals, shr_Tells, plain, stay_none_ref}
use Rattle.js_eval.proofs.UnseenWalks.{Goes-none_ref, stay_none, Goes-none}
use Rattle.js_eval.specs.contracts.evaluation.unseen.Unseen as unseen
use Rattle.js_eval.specs.contracts.evaluation.unseen.Unseen.with_name as f
use Rattle.js_eval.proofs.evaluation.unseen.Unseen.with_name.Code as code
use Rattle.js_eval.proofs.evaluation.unseen.Unseen.with_name.Statement.{statement}

abbrev stayed : Stays f.ended.signature.params f.ended.kept
stayed = (
  stay_none_ref (0 ∷ []) tt (plain (λ _. unseen.the_row)) yes,
  (stay_none (λ κs. (StrRefOf {n = 2} (1 ∷ []) tt).row κs) yes, tt),
)

pub with_name_spec : {M : Type 1} → statement M
with_name_spec 𝓤 𝓛 𝓜 𝓡 wired =
    let c = f.clauses 𝓛 𝓜.mem 𝓡.returns in let 𝓣 = tables 𝓤 𝓛.H 𝓜 𝓡 𝓡.env in
    proved 𝓛 f.ended stayed c 𝓜 𝓡 (
      Goes-none_ref 𝓛 2 (0 ∷ []) tt (plain (λ _. unseen.the_row)) yes,
      (Goes-none 𝓛 2 (λ κs. (StrRefOf {n = 2} (1 ∷ []) tt).row κs) yes (λ κs x f. refl), tt),
    ) f.Key.name code.function
    (code.unfolded 𝓤 𝓛.H 𝓜 𝓡 wired)
    (λ κs. (shr_vals, (shr_slice_vals, tt))) (λ κs. (
      shr_Tells (named 0) κs.0 unseen.the_row,
      (
        such_Tells (ShrSlice (named 1) κs.1.0 (UInt w8)) (λ x. Utf8 x.now)
            (λ x cs. (tt, tt)) shr_slice_vals (shr_slice_Tells (named 1) κs.1.0 (UInt w8)),
        tt,
      ),
    )) (λ κs qs bounds a g are.
    let fits : Fits w64 (length a.1.0.now) = record { fits = are.1.0.0.0.1.0 } in
    let y : (walk_of 𝓛 f.ended stayed c).Ghost = (
      (
        κs,
        qs,
        bounds,
        a,
        (vptr a.0.ref_ptr.0 a.0.ref_ptr.1 ∷ [], (slice_val a.1.0.ref_ptr (length a.1.0.now) ∷ [], tt)),
      ),
      g,
    ) in
    via 𝓤 _ (fst∗ 𝓤 _ (emp 𝓤))
    (qed 𝓛 (raw (alive 𝓛 f.signature κs qs) ∷ ‵ (owns (types_at f.signature.params κs) a y.0.4) ∷ []) ∵
    enter ! 𝓣.C 𝓣.Λ code.function (vptr a.0.ref_ptr.0 a.0.ref_ptr.1 ∷ slice_val a.1.0.ref_ptr (length a.1.0.now) ∷ []) _
    $ alloc_all ! (λ l. pass_all ! refl ((tt, tt), ((tt, (tt, (fits, tt))), tt)) $
    sets ! (agg ! (no_more !)) refl (tt, tt) $ returns ! (look_at ! 0 refl) $ free_all ! refl $
    suffices ! _ (ends_at 𝓛 f.ended stayed c y (vstruct vnil)
    (record { items = a.0.now.items ++ 47 ∷ escape a.1.0.now }) (tt, (tt, tt)) (tt, (tt, tt))) $ says ! refl $
    pure_i ! (unseen.the_row.own_val (record { items = a.0.now.items ++ 47 ∷ escape a.1.0.now }) (vstruct vnil ∷ []))
    ((λ vss. (tt, tt)), tt) ((tt, (refl, tt)), tt) $ move ! (1 ∷ 2 ∷ 0 ∷ []) $ done !)))
