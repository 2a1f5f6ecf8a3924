-- Bytes have a list of requests, whatever they are.
use Rattle.std.proofs.Common.{◌≡◌, ℕ, zero, suc, ◌+◌, ◌<◌, ◌≤◌, Bool, true, false, List, [], ◌∷◌, length, drop, refl, sym, ap, ◌∙◌, subst, arith, length-drop}
use Rattle.std.proofs.Common.{Option, Some, None}
use Rattle.std.specs.Prelude.{MatchOption, option_map, ◌==◌, ◌&&◌, ◌||◌, if◌then◌else◌, nat_lt}
use Rattle.resty_base.specs.Ascii.{line_feed, carriage_return}
use Rattle.uri_args.specs.declared.targets.Target.{Target}
use Rattle.http_in.specs.declared.heads.Head.{Head}
use Rattle.http_in.specs.declared.heads.HeadRead.{HeadRead}
use Rattle.http_in.specs.declared.heads.HeadRead.TheVariants as read
use Rattle.http_in.specs.Ends.{begins_empty_line, begins_feed, empty_line_size, end_within, head_end}
use Rattle.http_in.specs.Heads.{head_limit, unfinished, ReadsHead, Reads}
use Rattle.http_bodies.specs.declared.states.BodyState.{BodyState}
use Rattle.http_bodies.specs.declared.states.BodyState.TheVariants as state
use Rattle.client_line.specs.declared.requests.LineOut.{LineOut}
use Rattle.client_line.specs.declared.requests.LineOut.TheVariants as out
use Rattle.client_line.specs.Requests.{request_to, target_for, IsOf}
use Rattle.client_line.specs.Lines.{answer_dropping, after_head}
use Rattle.client_line.specs.Messages.{Request, body_state, body_length, AreRequests}
use Rattle.client_line.specs.Messages.{waits, refused, begun, message}
use Rattle.client_line.specs.HeadLaws.{read-of, read-says}

-- a head that ends has bytes
some-more : (o : Option ℕ) (n : ℕ) → option_map suc o ≡ Some n → 0 < n
some-more None n e = cc
some-more (Some k) n e = let f : suc k ≡ n = cc in omega (arith, f)

within-some : (bytes : List ℕ) (n : ℕ) → end_within bytes ≡ Some n → 0 < n
within-some [] n e = cc
within-some (b ∷ bs) n h = by ((b == line_feed) && begins_empty_line bs) h
  where
    by : (c : Bool) → (if c then Some (1 + empty_line_size bs) else option_map suc (end_within bs)) ≡ Some n → 0 < n
    by true e = let f : 1 + empty_line_size bs ≡ n = cc in omega (arith, f)
    by false e = some-more (end_within bs) n e

pub end-some : (bytes : List ℕ) (n : ℕ) → head_end bytes ≡ Some n → 0 < n
end-some [] n e = cc
end-some (b ∷ bs) n h = by ((b == line_feed) || ((b == carriage_return) && begins_feed bs)) h
  where
    by : (c : Bool) → (if c then option_map suc (head_end bs) else end_within (b ∷ bs)) ≡ Some n → 0 < n
    by true e = some-more (head_end bs) n e
    by false e = within-some (b ∷ bs) n e

-- bytes that a head is read of are fewer after it
after-fewer : (bytes : List ℕ) (k n : ℕ) (head : Head) (size : ℕ) → Reads bytes (read.Whole head size) → length bytes ≤ suc n
    → length (drop k (after_head (head_end bytes) bytes)) ≤ n
after-fewer bytes k n head size h fits = by (head_end bytes) refl h
  where
    not-whole : (count : ℕ) → read.Whole head size ≡ unfinished count → ⊥
    not-whole count = at (nat_lt count head_limit)
      where
        at : (c : Bool) → read.Whole head size ≡ (if c then read.More else read.Refused 431) → ⊥
        at true e = cc
        at false e = cc

    by : (end : Option ℕ) → head_end bytes ≡ end
        → MatchOption end (read.Whole head size ≡ unfinished (length bytes)) (λ m. ReadsHead bytes m (read.Whole head size))
        → length (drop k (after_head end bytes)) ≤ n
    by None e g = absurd (not-whole (length bytes) g)
    by (Some m) e g = omega (arith, end-some bytes m e, length-drop k (drop m bytes), length-drop m bytes, fits)

-- and there are some
some-bytes : (bytes : List ℕ) (head : Head) (size : ℕ) → Reads bytes (read.Whole head size) → length bytes ≤ 0 → ⊥
some-bytes [] head size h fits = cc
some-bytes (b ∷ bytes) head size h fits = omega (arith, fits)

pub record Listed (bytes : List ℕ) : Type 0 where
  pub requests : List Request
  pub answer : LineOut
  pub are : AreRequests bytes requests answer

-- a request, and what follows its head; what follows its whole body is listed
from-request : (bytes : List ℕ) (request : Request) → IsOf bytes (out.Request request.head request.target)
    → Listed (drop (body_length request (after_head (head_end bytes) bytes)) (after_head (head_end bytes) bytes)) → Listed bytes
from-request bytes request asks rest =
    let after = after_head (head_end bytes) bytes in
    by (body_state request after) refl
  where
    by : (far : BodyState) → body_state request (after_head (head_end bytes) bytes) ≡ far → Listed bytes
    by state.Whole e = record {
      requests = request ∷ rest.requests;
      answer = rest.answer;
      are = message (record { asks = asks; follows = refl }) e rest.are;
    }
    by far e = record {
      requests = request ∷ [];
      answer = answer_dropping (body_state request (after_head (head_end bytes) bytes));
      are = begun (record { asks = asks; follows = refl }) (λ w. let g : far ≡ state.Whole = sym e ∙ w in cc);
    }

-- by what the bytes are read as; the rest is listed where it is shorter
from-read : (bytes : List ℕ) (answer : HeadRead) → Reads bytes answer → ((head : Head) (size k : ℕ) → answer ≡ read.Whole head size
    → Listed (drop k (after_head (head_end bytes) bytes))) → Listed bytes
from-read bytes (read.Whole head size) h rest = by (target_for head) refl
  where
    by : (t : Option Target) → target_for head ≡ t → Listed bytes
    by None e = record { requests = []; answer = out.Refused 400; are = refused (read.Whole head size, h, sym (ap (request_to head) e)) }
    by (Some target) e =
        let request : Request = record { head = head; target = target } in
        from-request bytes request (read.Whole head size, h, sym (ap (request_to head) e))
        (rest head size (body_length request (after_head (head_end bytes) bytes)) refl)
from-read bytes read.More h rest = record { requests = []; answer = out.Waiting; are = waits (read.More, h, refl) }
from-read bytes (read.Refused code) h rest = record { requests = []; answer = out.Refused code; are = refused (read.Refused code, h, refl) }
from-read bytes read.Memory h rest = absurd (read-says bytes read.Memory h refl)

list-within : (n : ℕ) (bytes : List ℕ) → length bytes ≤ n → Listed bytes
list-within zero bytes fits =
    let r = read-of bytes in
    from-read bytes r.0 r.1 (λ head size k e. absurd (some-bytes bytes head size (subst (Reads bytes) e r.1) fits))
list-within (suc n) bytes fits =
    let r = read-of bytes in
    from-read bytes r.0 r.1 (λ head size k e. list-within n (drop k (after_head (head_end bytes) bytes))
    (after-fewer bytes k n head size (subst (Reads bytes) e r.1) fits))

pub list-of : (bytes : List ℕ) → Listed bytes
list-of bytes = list-within (length bytes) bytes (omega arith)
