-- Whole results over documents, by computing what the definitions say.
use Rattle.std.specs.Prelude.{◌≡◌, ℕ, zero, suc, List, [], ◌∷◌, ◌++◌, Bool, true, false, refl}
use Rattle.js_doc.specs.Value.{Value, null}
use Rattle.js_keyword.specs.AssertionKeyword.{keyword_named}
use Rattle.js_bundle.specs.Place.{holding}
use Rattle.js_bundle.specs.Url.{printed, without_fragment}
use Rattle.js_bundle.proofs.OnLiterals.{url_on_literals}
use Rattle.js_eval.specs.Examples.{one_document}
use Rattle.js_keyword.specs.Keyword.{which_keyword}
use Rattle.js_eval.specs.ResultExamples.{GiveTheseResults, chain}
use Rattle.js_eval.specs.Verdict.{within}

chain_settled : (root : Value) (n : ℕ) (above : List Value)
    → (within (one_document root) (suc n)).settled above (chain n) null ≡ true
unfolding within which_keyword
chain_settled root zero above = refl
chain_settled root (suc n) above = let h = chain_settled root n (above ++ chain (suc n) ∷ []) in rw h refl

chain_open : (root : Value) (n : ℕ) (above : List Value)
    → (within (one_document root) n).settled above (chain n) null ≡ false
unfolding within which_keyword
chain_open root zero above = refl
chain_open root (suc n) above = let h = chain_open root n (above ++ chain (suc n) ∷ []) in rw h refl

not_both : (b : Bool) → b ≡ false → b ≡ true → ⊥
not_both true e h = cc
not_both false e h = cc

pub given : GiveTheseResults
unfolding url_on_literals holding printed without_fragment within which_keyword keyword_named
given = record {
  escaped_name = record { bound = 2; settled = refl; node = (refl, (refl, (refl, (refl, tt, tt), tt), tt)) };
  failing_properties = record
      { bound = 2; settled = refl; node = (refl, (refl, (refl, tt, tt), (refl, (refl, (refl, tt, tt), tt), tt))) };
  if_before_else = record {
    bound = 2;
    settled = refl;
    node = (refl, (refl, (refl, tt, tt), (refl, (refl, (refl, tt, tt), tt), (refl, tt, tt))));
  };
  then_evaluates = record {
    bound = 3;
    settled = refl;
    node = (
      refl,
      (refl, (refl, (refl, (refl, tt, tt), tt), tt), (refl, (refl, (refl, (refl, tt, tt), tt), tt), (refl, tt, tt))),
    );
  };
  else_alone = record { bound = 1; settled = refl; node = (refl, (refl, tt, (refl, tt, tt))) };
  members = record {
    bound = 2;
    settled = refl;
    node = (
      refl,
      (
        refl,
        (refl, (refl, tt, tt), tt),
        (
          refl,
          (refl, tt, tt),
          (refl, (refl, (refl, tt, tt), (refl, (refl, tt, tt), tt)), (refl, (refl, tt, tt), tt)),
        ),
      ),
    );
  };
  dependent = record { bound = 2; settled = refl; node = (refl, (refl, (refl, (refl, tt, tt), tt), tt)) };
  items_at_once = record {
    bound = 2;
    settled = refl;
    node = (
      refl,
      (
        refl,
        (refl, (refl, tt, tt), (refl, (refl, tt, tt), (refl, (refl, tt, tt), tt))),
        (refl, (refl, (refl, tt, tt), (refl, (refl, tt, tt), tt)), (refl, tt, (refl, (refl, tt, tt), tt))),
      ),
    );
  };
  every_item = record
      { bound = 2; settled = refl; node = (refl, (refl, (refl, tt, tt), (refl, tt, (refl, (refl, tt, tt), tt)))) };
  no_item = record { bound = 1; settled = refl; node = (refl, (refl, tt, (refl, tt, (refl, tt, tt)))) };
  alternatives = record {
    bound = 2;
    settled = refl;
    node = (
      refl,
      (refl, (refl, tt, (refl, (refl, tt, tt), tt)), (refl, (refl, (refl, tt, tt), (refl, (refl, tt, tt), tt)), tt)),
    );
  };
  into_a_document = record { bound = 2; settled = refl; node = (refl, (refl, (refl, (refl, tt, tt), tt), tt)) };
  within_512 = chain_settled (chain 511) 511 [];
  not_within_511 = not_both _ (chain_open (chain 511) 511 []);
}
