-- The reasons of statuses (RFC 9110, 15; RFC 6585, 4 and 5).
use Rattle.std.specs.Prelude.{ℕ, ◌/◌, ◌==◌, List, [], codes, if◌then◌else◌}

-- successful ones (15.3)
abbrev pub success : ℕ → List ℕ
success code =
    if code == 200 then codes "OK" else if code == 201 then codes "Created" else if code == 202 then codes "Accepted"
    else if code == 204 then codes "No Content" else if code == 206 then codes "Partial Content" else []

-- redirections (15.4)
abbrev pub redirection : ℕ → List ℕ
redirection code =
    if code == 301 then codes "Moved Permanently" else if code == 302 then codes "Found" else if code == 303 then codes "See Other"
    else if code == 304 then codes "Not Modified" else if code == 307 then codes "Temporary Redirect"
    else if code == 308 then codes "Permanent Redirect" else []

-- errors of the client (15.5; 429 and 431: RFC 6585)
abbrev pub client_error : ℕ → List ℕ
client_error code =
    if code == 400 then codes "Bad Request" else if code == 401 then codes "Unauthorized" else if code == 403 then codes "Forbidden"
    else if code == 404 then codes "Not Found" else if code == 405 then codes "Method Not Allowed" else if code == 408 then codes "Request Timeout"
    else if code == 409 then codes "Conflict" else if code == 413 then codes "Content Too Large" else if code == 429 then codes "Too Many Requests"
    else if code == 431 then codes "Request Header Fields Too Large" else []

-- errors of the server (15.6)
abbrev pub server_error : ℕ → List ℕ
server_error code =
    if code == 500 then codes "Internal Server Error" else if code == 501 then codes "Not Implemented" else if code == 502 then codes "Bad Gateway"
    else if code == 503 then codes "Service Unavailable" else if code == 504 then codes "Gateway Timeout"
    else if code == 505 then codes "HTTP Version Not Supported" else []

-- the reason of a status by its class, empty where it has none here
abbrev pub reason : ℕ → List ℕ
reason code =
    if code / 100 == 2 then success code else if code / 100 == 3 then redirection code
    else if code / 100 == 4 then client_error code else if code / 100 == 5 then server_error code else []
