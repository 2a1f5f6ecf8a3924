-- The texts of the exchange, line by line: its configuration, its schedule and its history.
use Rattle.std.specs.Prelude.{ℕ, List, ◌++◌, codes}

abbrev pub configuration_text : List ℕ
configuration_text =
    codes "http { server { listen 8080;\n"
    ++ codes "location / { content_by_lua_block { ngx.say(\"hi\") } }\n"
    ++ codes "} }\n"

abbrev pub schedule_text : List ℕ
schedule_text =
    codes "moment 1000\n"
    ++ codes "arrive c1\n"
    ++ codes "bytes c1 \"GET / HTTP/1.0\\r\\n\\r\\n\"\n"
    ++ codes "stop\n"

-- the entry of the reply is one line
abbrev pub exchange_text : List ℕ
exchange_text =
    codes "moment 1000\n"
    ++ codes "arrive c1\n"
    ++ codes "bytes c1 \"GET / HTTP/1.0\\r\\n\\r\\n\"\n"
    ++ codes "put c1 \"HTTP/1.1 200 OK\\r\\nServer: resty\\r\\nDate: Thu, 01 Jan 1970 00:00:01 GMT\\r\\n"
    ++ codes "Content-Type: text/plain\\r\\nConnection: close\\r\\n\\r\\nhi\\n\"\n"
    ++ codes "close c1\n"
    ++ codes "stop\n"
