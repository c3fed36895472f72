-- A text that leads to the start of a line, or to the end, from a phase on is one that completes the phase; a text that does so from
-- the first number on has the form.
use mathlib.Core.Path.{◌≡◌, refl, sym, ap, ◌∙◌, subst}
use mathlib.Core.Bool.{Bool, true, false, cond}
use mathlib.Core.List.{List, [], ◌∷◌, ◌++◌, append_assoc}
use Prim.Native.Nat.{ℕ}
use native.Mathlib.Omega.{arith}
use borrow.Author.Tests.{eqb-true, eqb-false}
use lib.Dec.{eqb}
use Rattle.std.specs.Prelude.{Option, Some, None}
use Rattle.grammar.specs.declared.Symbol.{Symbol}
use Rattle.grammar.specs.declared.Symbol.TheVariants.{Token, Nonterminal}
use Rattle.grammar.specs.Grammar.{Form, Production}
use Rattle.text.specs.Text.{digit, last_digits, decimal}
use Rattle.text.specs.Numeral.{DecimalDigit, Each, value, Numeral}
use Rattle.text.specs.Reading.{is_digit}
use Rattle.text.proofs.Promise.{decimal_unique, digit_is}
use Rattle.sheet.specs.Sheet.{line_feed, space, colon, letter_n, letter_t, symbol_text, symbols_text, line_text, lines_text, first_line, draft_text, HasForm}
use Rattle.sheet.specs.Form.{zero_digit, wants, behind, step, begin, go_on, letter, lead, after}
use Rattle.sheet.specs.declared.form.Slot.{Slot}
use Rattle.sheet.specs.declared.form.Slot.TheVariants.{Tokens, Nonterminals, Start, Count, Left, Right}
use Rattle.sheet.specs.declared.form.Phase.{Phase}
use Rattle.sheet.specs.declared.form.Phase.TheVariants.{First, More, Behind, Line, Colon, Letter}

-- a byte, and then K
record Marked (mark : ℕ) (K : List ℕ → Type 0) (text : List ℕ) : Type 0 where
  rest : List ℕ
  is : text ≡ mark ∷ rest
  goes : K rest

-- a number, and then K
record Number (K : List ℕ → Type 0) (text : List ℕ) : Type 0 where
  number : ℕ
  rest : List ℕ
  is : text ≡ decimal number ++ rest
  goes : K rest

-- any digits, and then K
record Digits (K : List ℕ → Type 0) (text : List ℕ) : Type 0 where
  digits : List ℕ
  rest : List ℕ
  all : Each DecimalDigit digits
  is : text ≡ digits ++ rest
  goes : K rest

record Lines (text : List ℕ) : Type 0 where
  productions : List Production
  is : text ≡ lines_text productions

-- the symbols that are left, a line feed, further lines
record Side (text : List ℕ) : Type 0 where
  form : Form
  productions : List Production
  is : text ≡ symbols_text form ++ (line_feed ∷ lines_text productions)

-- a symbol but for its space, and then such a side
record Lettered (text : List ℕ) : Type 0 where
  symbol : Symbol
  rest : List ℕ
  is : space ∷ text ≡ symbol_text symbol ++ rest
  goes : Side rest

abbrev AfterCount : List ℕ → Type 0
AfterCount = Marked line_feed Lines

abbrev AfterStart : List ℕ → Type 0
AfterStart = Marked space (Number AfterCount)

abbrev AfterNonterminals : List ℕ → Type 0
AfterNonterminals = Marked space (Number AfterStart)

abbrev AfterTokens : List ℕ → Type 0
AfterTokens = Marked space (Number AfterNonterminals)

-- what follows a number
unfoldable Follows : Slot → List ℕ → Type 0
Follows Tokens = AfterTokens
Follows Nonterminals = AfterNonterminals
Follows Start = AfterStart
Follows Count = AfterCount
Follows Left = Marked space (Marked colon Side)
Follows Right = Side

-- the texts that complete a phase
unfoldable Goes : Option Phase → List ℕ → Type 0
Goes (Some (First slot)) = Number (Follows slot)
Goes (Some (More slot)) = Digits (Follows slot)
Goes (Some (Behind slot)) = Follows slot
Goes (Some Line) = Lines
Goes (Some Colon) = Marked colon Side
Goes (Some Letter) = Lettered
Goes None = λ text. ⊥

-- what is chosen holds for one of two reasons
chosen : {A B : Type 0} (P : A → Type 0) (x : Bool) {a b : A} → (x ≡ true → P a → B) → (x ≡ false → P b → B) → P (cond x a b) → B
chosen P true f g p = f refl p
chosen P false f g p = g refl p

wants_back : (b wanted : ℕ) (next : Phase) (text : List ℕ) → Goes (wants b wanted next) text → (b ≡ wanted) × Goes (Some next) text
unfolding wants Goes
wants_back b wanted next text g =
    chosen (λ phase. Goes phase text) (eqb b wanted) (λ e k. (eqb-true b wanted e, k)) (λ e k. absurd k) g

marked_back : (b wanted : ℕ) (next : Phase) (text : List ℕ) → Goes (wants b wanted next) text → Marked wanted (Goes (Some next)) (b ∷ text)
marked_back b wanted next text g =
    let (e, k) = wants_back b wanted next text g in
    record { rest = text; is = ap (λ (c : ℕ). c ∷ text) e; goes = k }

side_back : (b : ℕ) (text : List ℕ) → Goes (behind Right b) text → Side (b ∷ text)
unfolding behind Goes symbols_text
side_back b text g =
    chosen (λ phase. Goes phase text) (eqb b space)
    (λ e k. record {
      form = k.symbol ∷ k.goes.form;
      productions = k.goes.productions;
      is =
          ap (λ (c : ℕ). c ∷ text) (eqb-true b space e)
          ∙ k.is
          ∙ ap (λ (rest : List ℕ). symbol_text k.symbol ++ rest) k.goes.is
          ∙ sym (append_assoc (symbol_text k.symbol) (symbols_text k.goes.form) (line_feed ∷ lines_text k.goes.productions));
    })
    (λ _ k. let (e, lines) = wants_back b line_feed Line text k in record {
      form = [];
      productions = lines.productions;
      is = ap (λ (c : ℕ). c ∷ text) e ∙ ap (λ (rest : List ℕ). line_feed ∷ rest) lines.is;
    })
    g

behind_back : (slot : Slot) (b : ℕ) (text : List ℕ) → Goes (behind slot b) text → Follows slot (b ∷ text)
unfolding behind Goes Follows
behind_back Tokens b text g = marked_back b space (First Nonterminals) text g
behind_back Nonterminals b text g = marked_back b space (First Start) text g
behind_back Start b text g = marked_back b space (First Count) text g
behind_back Count b text g = marked_back b line_feed Line text g
behind_back Left b text g = marked_back b space Colon text g
behind_back Right b text g = side_back b text g

-- digits with no zero in front are the decimal of their value
digits_number : {K : List ℕ → Type 0} {b : ℕ} {text : List ℕ} → DecimalDigit b → (b ≡ zero_digit → ⊥) → Digits K text → Number K (b ∷ text)
digits_number {K} {b} {text} d nonzero k =
    let numeral : Numeral (value 10 (b ∷ k.digits)) (b ∷ k.digits) = record {
      digits = (d, k.all);
      written = omega arith;
      leading = λ e. absurd (nonzero e);
      says = refl;
    } in
    record {
      number = value 10 (b ∷ k.digits);
      rest = k.rest;
      is = ap (λ (rest : List ℕ). b ∷ rest) k.is ∙ ap (λ (ds : List ℕ). ds ++ k.rest) (decimal_unique _ (b ∷ k.digits) numeral);
      goes = k.goes;
    }

first_back : (slot : Slot) (b : ℕ) (text : List ℕ) → Goes (step (First slot) b) text → Number (Follows slot) (b ∷ text)
unfolding step Goes decimal last_digits digit begin go_on letter
first_back slot b text g =
    chosen (λ phase. Goes phase text) (eqb b zero_digit)
    (λ e k. record { number = 0; rest = text; is = ap (λ (c : ℕ). c ∷ text) (eqb-true b zero_digit e); goes = k })
    (λ e k. chosen (λ phase. Goes phase text) (is_digit b) (λ d more. digits_number (digit_is b d) (eqb-false b zero_digit e) more) (λ d no_way. absurd no_way) k)
    g

more_back : (slot : Slot) (b : ℕ) (text : List ℕ) → Goes (step (More slot) b) text → Digits (Follows slot) (b ∷ text)
unfolding step Goes begin go_on letter
more_back slot b text g =
    chosen (λ phase. Goes phase text) (is_digit b)
    (λ d k. record { digits = b ∷ k.digits; rest = k.rest; all = (digit_is b d, k.all); is = ap (λ (rest : List ℕ). b ∷ rest) k.is; goes = k.goes })
    (λ d k. record { digits = []; rest = b ∷ text; all = tt; is = refl; goes = behind_back slot b text k })
    g

letter_back : (b : ℕ) (text : List ℕ) → Goes (step Letter b) text → Lettered (b ∷ text)
unfolding step Goes Follows symbol_text begin go_on letter
letter_back b text g =
    chosen (λ phase. Goes phase text) (eqb b letter_t)
    (λ e k. record {
      symbol = Token k.number;
      rest = k.rest;
      is = ap (λ (c : ℕ). space ∷ c ∷ text) (eqb-true b letter_t e) ∙ ap (λ (rest : List ℕ). space ∷ letter_t ∷ rest) k.is;
      goes = k.goes;
    })
    (λ _ h. let (e, k) = wants_back b letter_n (First Right) text h in record {
      symbol = Nonterminal k.number;
      rest = k.rest;
      is = ap (λ (c : ℕ). space ∷ c ∷ text) e ∙ ap (λ (rest : List ℕ). space ∷ letter_n ∷ rest) k.is;
      goes = k.goes;
    })
    g

line_back : (b : ℕ) (text : List ℕ) → Goes (step Line b) text → Lines (b ∷ text)
unfolding step Goes Follows lines_text line_text begin go_on letter
line_back b text g =
    let (e, k) = wants_back b letter_n (First Left) text g in
    let left = k.goes in
    let side = left.goes.goes in
    let shown : text ≡ decimal k.number ++ (space ∷ colon ∷ (symbols_text side.form ++ (line_feed ∷ lines_text side.productions))) =
    k.is
    ∙ ap (λ (rest : List ℕ). decimal k.number ++ rest)
    (left.is ∙ ap (λ (rest : List ℕ). space ∷ rest) (left.goes.is ∙ ap (λ (rest : List ℕ). colon ∷ rest) side.is)) in
    record {
      productions = record { left = k.number; right = side.form } ∷ side.productions;
      is = ap (λ (c : ℕ). c ∷ text) e ∙ ap (λ (rest : List ℕ). letter_n ∷ rest) shown ∙ simp append_assoc;
    }

back : (phase : Option Phase) (b : ℕ) (text : List ℕ) → Goes (lead phase b) text → Goes phase (b ∷ text)
unfolding lead step Goes Follows begin go_on letter
back (Some (First slot)) b text g = first_back slot b text g
back (Some (More slot)) b text g = more_back slot b text g
back (Some (Behind slot)) b text g = behind_back slot b text g
back (Some Line) b text g = line_back b text g
back (Some Colon) b text g = marked_back b colon (Behind Right) text g
back (Some Letter) b text g = letter_back b text g
back None b text g = g

-- what leads to the start of a line completes the phase
completes : (phase : Option Phase) (text : List ℕ) → after phase text ≡ Some Line → Goes phase text
unfolding after Goes lines_text lead
completes phase [] e = subst (λ p. Goes p []) (sym e) (record { productions = []; is = refl })
completes phase (b ∷ text) e = back phase b text (completes (lead phase b) text e)

first_line_lem : {text : List ℕ} → Number AfterTokens text → HasForm text
unfolding draft_text first_line
first_line_lem {text} one =
    let two = one.goes.goes in
    let three = two.goes.goes in
    let four = three.goes.goes in
    let lines = four.goes.goes in
    record {
      draft = record { tokens = one.number; nonterminals = two.number; start = three.number; count = four.number; productions = lines.productions };
      told =
          rw (one.is, one.goes.is, two.is, two.goes.is, three.is, three.goes.is, four.is, four.goes.is, lines.is) (simp append_assoc);
    }

-- a text that leads from the first number to the start of a line has the form
pub reads_form : (text : List ℕ) → after (Some (First Tokens)) text ≡ Some Line → HasForm text
unfolding Goes Follows
reads_form text e = first_line_lem (completes (Some (First Tokens)) text e)
