-- The consuming reader and its positional mirror come to the same verdict; `spells_joined` is what the code cites.
-- `next` is what the consuming reader does after a part, and `K` what the mirror does after it.
use mathlib.Core.Path.{◌≡◌, refl, sym, ap, ◌∙◌}
use mathlib.Core.Bool.{Bool, true, false}
use mathlib.Core.List.{List, [], ◌∷◌}
use mathlib.Core.Option.{none, none-ne-some}
use Prim.Native.Nat.{ℕ, zero, suc, ◌-◌, ◌≤◌, ◌<◌, zero-le}
use native.Mathlib.Omega.{arith}
use lib.Dec.{ltb}
use lib.ListN.{length, get_or, drop, drop_of_length-le}
use lib.Seq.{drop-cons}
use borrow.Author.Tests.{ltb-true, ltb-false}
use Rattle.grammar.specs.declared.Symbol.TheVariants.{Token, Nonterminal}
use Rattle.grammar.specs.Grammar.{Form, Production, Grammar}
use Rattle.sets.specs.Calls.{Decides}
use Rattle.sets.proofs.Promise.{decided, decides_unique}
use Rattle.answers.specs.Limits.{most_tokens, most_nonterminals, most_productions, most_symbols}
use Rattle.std.specs.Prelude.{Ok}
use Rattle.answers.specs.declared.refusals.Refusal.{Refusal}
use Rattle.answers.specs.declared.refusals.Refusal.TheVariants as refusals
use Rattle.reader.specs.Book.{refused, Rest, wanted, marked, symbol_of, IsSymbol, symbols, records, ending, spells}
use Rattle.reader.specs.Verdicts.{Verdict, bad, verdict_on, verdict_of, and_then}
use Rattle.reader.specs.Positional.{next_byte, within, checked_at, wanted_from, symbol_from, symbols_from, marked_from, right_from, left_from, record_from, each_record_from, header_of, records_from, ended_at, end_from, is_symbol}
use Rattle.reader.proofs.Passing.{Passes, by_cases, checked_right, checked_wrong, checked_short, symbols_pass, records_pass}

module _ (T N : ℕ) where
  pub symbol_known : (byte : ℕ) → is_symbol T N byte ≡ true → IsSymbol T N byte
  unfolding is_symbol symbol_of
  symbol_known byte e =
      by_cases (ltb byte T)
      (λ t. (Token byte, rw (symbol_of, t)))
      (λ t. (Nonterminal (byte - 128), rw (symbol_of, t, rw (is_symbol, t) at e)))

  pub symbol_unknown : (byte : ℕ) → is_symbol T N byte ≡ false → symbol_of T N byte ≡ none
  unfolding is_symbol symbol_of
  symbol_unknown byte e =
      by_cases (ltb byte T)
      (λ t. let differ : true ≡ false = rw (is_symbol, t) at e in cc)
      (λ t. rw (symbol_of, t, rw (is_symbol, t) at e))

  -- what tells whether a byte is a symbol is the code's test
  pub told_symbol : (byte : ℕ) {r : Bool} → Decides r (IsSymbol T N byte) → r ≡ is_symbol T N byte
  told_symbol byte {r} told =
      decides_unique (IsSymbol T N byte) r (is_symbol T N byte) told
      (decided (is_symbol T N byte) (symbol_known byte) (λ known. by_cases (is_symbol T N byte) (λ t. t) (λ f. absurd (none-ne-some known.0 (sym (symbol_unknown byte f) ∙ known.1)))))

module _ (b : List ℕ) where
  -- the consuming reader, put at a place of the book, comes to a verdict
  abbrev Comes : Rest → ℕ → Verdict → Type 0
  Comes reader at v = verdict_on (length b) (reader (drop at b) at) ≡ v

  -- whatever was read, both readers go on alike from any place of the book
  abbrev Alike : {A : Type 0} → (A → Rest) → (Verdict → Verdict) → Type 0
  Alike {A} next K = (a : A) (at : ℕ) → at ≤ length b → Comes (next a) at (K (Ok at))

  judged_joins : (right : Bool) (why : Refusal) (reader : Rest) (K : Verdict → Verdict) (at : ℕ) →
      at ≤ length b →
      Passes K →
      reader [] at ≡ refused refusals.Short at →
      (at < length b → right ≡ true → verdict_on (length b) (reader (get_or b at 0 ∷ drop (suc at) b) at) ≡ K (Ok (suc at))) →
      (right ≡ false → reader (get_or b at 0 ∷ drop (suc at) b) at ≡ refused why at) →
      Comes reader at (K (checked_at b right why at))
  unfolding verdict_on
  judged_joins right why reader K at inside passes missing fine wrong =
      by_cases (ltb at (length b))
      (λ t. let h : at < length b = ltb-true at (length b) t in
      by_cases right
      (λ e. rw (drop-cons b at 0 h, checked_right b right why at h e) (fine h e))
      (λ e. rw (drop-cons b at 0 h, checked_wrong b right why at h e, wrong e, passes)))
      (λ t. let h : length b ≤ at = ltb-false at (length b) t in
      let e : at ≡ length b = omega arith in
      rw (drop_of_length-le b h, checked_short b right why at h, missing, passes) (ap (bad refusals.Short) e))

  wanted_joins : (low high : ℕ) (why : Refusal) (next : ℕ → Rest) (K : Verdict → Verdict) (at : ℕ) →
      at ≤ length b →
      Passes K →
      (at < length b → Comes (next (get_or b at 0)) (suc at) (K (Ok (suc at)))) →
      Comes (wanted low high why next) at (K (wanted_from b low high why (Ok at)))
  unfolding wanted_from and_then wanted within
  wanted_joins low high why next K at inside passes then =
      judged_joins (within low high (get_or b at 0)) why (wanted low high why next) K at inside passes refl
      (λ h e. rw (wanted, e) (then h))
      (λ e. rw (wanted, e))

  marked_joins : (one other : ℕ) (next : Rest) (K : Verdict → Verdict) (at : ℕ) →
      at ≤ length b →
      Passes K →
      (suc at < length b → Comes next (suc (suc at)) (K (Ok (suc (suc at))))) →
      Comes (marked one other next) at (K (marked_from b one other (Ok at)))
  unfolding marked marked_from wanted_from and_then
  marked_joins one other next K at inside passes then =
      wanted_joins _ _ _ _ (λ v. K (wanted_from b other (suc other) refusals.Mark v)) _ inside passes
      (λ h. wanted_joins _ _ _ _ K _ h passes then)

  module _ (T N : ℕ) where
    symbols_join : (l : ℕ) (next : Form → Rest) (K : Verdict → Verdict) (at : ℕ) →
        at ≤ length b →
        Passes K →
        Alike next K →
        Comes (symbols T N l next) at (K (symbols_from b T N l (Ok at)))
    unfolding symbols symbols_from symbol_from and_then
    symbols_join zero next K at inside passes alike = alike [] at inside
    symbols_join (suc l) next K at inside passes alike =
        judged_joins (is_symbol T N (get_or b at 0)) refusals.Symbol (symbols T N (suc l) next) (λ v. K (symbols_from b T N l v)) at inside
        (λ fault. ap K (symbols_pass b T N l fault) ∙ passes fault)
        refl
        (λ h e. let known = symbol_known T N (get_or b at 0) e in
        rw (symbols, known.1) (symbols_join l (λ form. next (known.0 ∷ form)) K (suc at) h passes (λ form. alike (known.0 ∷ form))))
        (λ e. rw (symbols, symbol_unknown T N (get_or b at 0) e))

    right_joins : (next : Form → Rest) (K : Verdict → Verdict) (at : ℕ) →
        at ≤ length b →
        Passes K →
        Alike next K →
        Comes (wanted 0 (suc most_symbols) refusals.Limit (λ l. symbols T N l next)) at (K (right_from b T N (Ok at)))
    unfolding right_from next_byte
    right_joins next K at inside passes alike =
        wanted_joins _ _ _ _ (λ v. K (symbols_from b T N (get_or b at 0) v)) _ inside
        (λ fault. ap K (symbols_pass b T N (get_or b at 0) fault) ∙ passes fault)
        (λ h. symbols_join _ _ K _ h passes alike)

    records_join : (p : ℕ) (next : List Production → Rest) (K : Verdict → Verdict) (at : ℕ) →
        at ≤ length b →
        Passes K →
        Alike next K →
        Comes (records T N p next) at (K (each_record_from b T N p (Ok at)))
    unfolding records each_record_from record_from left_from right_from next_byte symbols_from wanted_from and_then
    records_join zero next K at inside passes alike = alike [] at inside
    records_join (suc p) next K at inside passes alike =
        let after : Verdict → Verdict = λ v. K (each_record_from b T N p v) in
        let passes_after : Passes after = λ fault. ap K (records_pass b T N p fault) ∙ passes fault in
        marked_joins _ _ _ (λ v. after (right_from b T N (wanted_from b 0 N refusals.Symbol v))) _ inside passes_after
        (λ h. wanted_joins _ _ _ _ (λ v. after (right_from b T N v)) _ h passes_after
        (λ k. right_joins _ after _ k passes_after
        (λ form place fits. records_join p _ K place fits passes (λ rest. alike _))))

  end_joins : (g : Grammar) (at : ℕ) → at ≤ length b → Comes (ending g) at (end_from b (Ok at))
  unfolding verdict_on ending end_from ended_at and_then
  end_joins g at inside =
      by_cases (ltb at (length b))
      (λ t. rw (drop-cons b at 0 (ltb-true at (length b) t), ended_at, t))
      (λ t. let h : length b ≤ at = ltb-false at (length b) t in
      let e : length b ≡ at = omega arith in
      rw (drop_of_length-le b h, ended_at, t) (ap Ok e))

  -- the records and the end after a header
  abbrev pub behind_header : Verdict → Verdict
  behind_header v = end_from b (records_from b v)

  pub rest_passes : Passes behind_header
  unfolding records_from end_from and_then
  rest_passes fault = rw (records_pass b (get_or b 2 0) (get_or b 3 0) (get_or b 5 0) fault)

  -- what the bytes spell is what the parts, one after another, come to
  pub spells_joined : verdict_of b ≡ end_from b (records_from b (header_of b))
  unfolding verdict_of spells header_of records_from end_from wanted_from and_then
  spells_joined =
      let after_start : Verdict → Verdict = λ v. behind_header (wanted_from b 1 (suc most_productions) refusals.Limit v) in
      let after_nonterminals : Verdict → Verdict = λ v. after_start (wanted_from b 0 (get_or b 3 0) refusals.Limit v) in
      let after_tokens : Verdict → Verdict = λ v. after_nonterminals (wanted_from b 1 (suc most_nonterminals) refusals.Limit v) in
      let after_mark : Verdict → Verdict = λ v. after_tokens (wanted_from b 1 (suc most_tokens) refusals.Limit v) in
      marked_joins _ _ _ after_mark 0 zero-le rest_passes
      (λ h. wanted_joins _ _ _ _ after_tokens _ h rest_passes
      (λ h. wanted_joins _ _ _ _ after_nonterminals _ h rest_passes
      (λ h. wanted_joins _ _ _ _ after_start _ h rest_passes
      (λ h. wanted_joins _ _ _ _ behind_header _ h rest_passes
      (λ h. records_join _ _ _ _ (λ listed. end_from b listed) _ h (λ fault. refl)
      (λ rest. end_joins _))))))
